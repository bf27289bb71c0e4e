use Rattle.std.proofs.Common.{arith}
use Rattle.std.proofs.lemmas.Grind.{common_steps}
use Rattle.replay_lines.proofs.list_words.are_turns.Goals as goal

pub returns : goal.returns
returns c = grind (arith, common_steps)
