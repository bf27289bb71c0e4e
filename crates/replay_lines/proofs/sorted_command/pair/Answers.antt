use Rattle.std.proofs.Common.{◌∙◌}
use Rattle.replay_lines.proofs.Pairs.{no_pair, read_pair}
use Rattle.replay_lines.proofs.sorted_command.pair.Goals as goal

pub returns-in_default : goal.returns-in_default
returns-in_default c = no_pair c.args.word.now c.in_default.ensures

pub returns : goal.returns
returns c = c.item_with.ensures ∙ read_pair c.args.word.now c.in-Some.colon c.in-Some.ensures
