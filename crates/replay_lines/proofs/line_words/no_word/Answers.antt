use Rattle.std.proofs.Common.{rules}
use Rattle.replay_lines.proofs.line_words.no_word.Goals as goal

pub returns-in-None : goal.returns-in-None
returns-in-None c = search rules
