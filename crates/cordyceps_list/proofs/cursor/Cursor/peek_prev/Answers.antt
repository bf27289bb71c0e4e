use Rattle.std.proofs.Common.{arith}
use Rattle.std.proofs.lemmas.Grind.{common_steps}
use Rattle.cordyceps_list.proofs.Written.{none_before_first}
use Rattle.cordyceps_list.proofs.cursor.Cursor.peek_prev.Goals as goal

pub returns : goal.returns
returns g c = grind (arith, common_steps, none_before_first)
