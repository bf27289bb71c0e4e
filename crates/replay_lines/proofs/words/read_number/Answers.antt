use Rattle.std.proofs.Common.{arith, rules}
use Rattle.std.proofs.lemmas.Grind.{common_steps}
use Rattle.replay_lines.proofs.words.read_number.Goals as goal

pub loop-digit-init : goal.loop-digit-init
loop-digit-init c = search rules

pub loop-digit-preserved : goal.loop-digit-preserved
loop-digit-preserved c = grind (arith, common_steps)
