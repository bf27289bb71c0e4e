use Rattle.std.proofs.Common.{arith}
use Rattle.std.proofs.lemmas.Grind.{common_steps}
use Rattle.cordyceps_list.proofs.cursor.Cursor.move_prev.Goals as goal

pub returns-then-self-eq0-clause-place : goal.returns-then-self-eq0-clause-place
returns-then-self-eq0-clause-place g c = grind (arith, common_steps)
