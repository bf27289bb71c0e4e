use Rattle.std.proofs.Common.{◌∙◌}
use Rattle.replay_lines.proofs.CursorSpelling.{is_spelled, line_fits, read_spelled}
use Rattle.replay_lines.proofs.cursor_command.read_cursor_command.Goals as goal

pub returns-clause-fits : goal.returns-clause-fits
returns-clause-fits c = line_fits c.args.line.now c.read_words.result c.read_words.ensures

pub returns-clause-spelled : goal.returns-clause-spelled
returns-clause-spelled c = is_spelled c.args.line.now c.read_words.result c.read_words.ensures

pub returns-clause-every : goal.returns-clause-every
returns-clause-every c = λ command fits numbers is. c.read_words.ensures ∙ read_spelled c.args.line.now command fits numbers is
