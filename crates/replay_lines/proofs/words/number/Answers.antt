use Rattle.std.proofs.Common.{◌∙◌}
use Rattle.replay_lines.proofs.Numbers.{is_numeral_of, numeral_read}
use Rattle.replay_lines.proofs.words.number.Goals as goal

pub returns-clause-numeral : goal.returns-clause-numeral
returns-clause-numeral c = is_numeral_of c.args.word.now c.read_number.result c.read_number.ensures

pub returns-clause-every : goal.returns-clause-every
returns-clause-every c = λ n small is. c.read_number.ensures ∙ numeral_read c.args.word.now n small is
