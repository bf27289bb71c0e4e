use Rattle.replay_driver.proofs.Pieces.{left}
use Rattle.replay_driver.proofs.script.keep.Goals as goal

pub returns-clause-kept : goal.returns-clause-kept
returns-clause-kept c = rw c.copy_within.ensures.after (left c.args.block.now c.args.used c.args.end c.requires.order c.requires.within)
