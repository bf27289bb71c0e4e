use Rattle.std.proofs.Common.{rules}
use Rattle.cordyceps_list.proofs.list.List.try_push_back.Goals as goal

pub returns : goal.returns
returns g c = search rules
