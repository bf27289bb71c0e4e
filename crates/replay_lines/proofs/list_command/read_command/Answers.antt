use Rattle.replay_lines.proofs.Spelling.{fits_read, spelled_read, every_read}
use Rattle.replay_lines.proofs.list_command.read_command.Goals as goal

pub returns-clause-fits : goal.returns-clause-fits
returns-clause-fits c = fits_read c.args.line.now c.read_words.result c.read_words.ensures.value

pub returns-clause-spelled : goal.returns-clause-spelled
returns-clause-spelled c = spelled_read c.args.line.now c.read_words.result c.read_words.ensures.value

pub returns-clause-every : goal.returns-clause-every
returns-clause-every c = every_read c.args.line.now c.read_words.result c.read_words.ensures.value
