use Rattle.std.proofs.Common.{arith}
use Rattle.std.proofs.lemmas.Grind.{common_steps}
use Rattle.cordyceps_list.proofs.Written.{none_past}
use Rattle.cordyceps_list.proofs.cursor.Cursor.peek_next.Goals as goal

pub returns : goal.returns
returns g c = grind (arith, common_steps, none_past)
