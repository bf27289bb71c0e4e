use Rattle.std.proofs.Common.{rules}
use Rattle.replay_lines.proofs.line_words.party_and_number.Goals as goal

pub returns : goal.returns
returns c = search rules
