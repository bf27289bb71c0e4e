use Rattle.std.proofs.Common.{rules}
use Rattle.cordyceps_commands.proofs.item.ItemPartialOrd.partial_cmp.Goals as goal

pub returns : goal.returns
returns c = search rules
