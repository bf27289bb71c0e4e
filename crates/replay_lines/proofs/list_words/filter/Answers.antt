use Rattle.std.proofs.Common.{rules}
use Rattle.replay_lines.proofs.list_words.filter.Goals as goal

pub returns-then-eq-2 : goal.returns-then-eq-2
returns-then-eq-2 c = search rules
