use Rattle.std.proofs.Common.{◌∙◌}
use Rattle.replay_lines.proofs.QueueSpelling.{is_spelled, read_spelled}
use Rattle.replay_lines.proofs.queue_command.read_command.Goals as goal

pub returns-clause-spelled : goal.returns-clause-spelled
returns-clause-spelled c = is_spelled c.args.line.now c.read_words.result c.read_words.ensures

pub returns-clause-every : goal.returns-clause-every
returns-clause-every c = λ command numbers is. c.read_words.ensures ∙ read_spelled c.args.line.now command numbers is
