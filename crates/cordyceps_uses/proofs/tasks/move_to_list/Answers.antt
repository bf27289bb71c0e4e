use Rattle.std.proofs.Common.{rules}
use Rattle.cordyceps_uses.proofs.tasks.move_to_list.Goals as goal

pub returns : goal.returns
returns c = search rules
