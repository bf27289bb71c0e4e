use Rattle.std.proofs.Common.{◌∙◌, ap}
use Rattle.replay_lines.specs.Words.{words_left}
use Rattle.replay_lines.proofs.Splitting.{first_word, only_word}
use Rattle.replay_lines.proofs.words.Words.next_word.Goals as goal

pub returns-in-Some : goal.returns-in-Some
returns-in-Some c = ap words_left c.in_ok-rest.was ∙ first_word c.in_ok-rest.rest.now c.in-Some.at c.in-Some.ensures

pub returns-in-None : goal.returns-in-None
returns-in-None c = ap words_left c.in_ok-rest.was ∙ only_word c.in_ok-rest.rest.now c.in-None.ensures
