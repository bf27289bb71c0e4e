use Rattle.std.proofs.Common.{arith}
use Rattle.replay_driver.proofs.Pieces.{read_after}
use Rattle.replay_driver.proofs.script.read_more.Goals as goal

pub returns-clause-read : goal.returns-clause-read
returns-clause-read g c = (_, c.in_ok-count.ensures.bytes, read_after c.args.held c.in_ok-count.count c.args.block.now c.read.new.buffer (omega (arith, c.requires.held)) c.in_ok-count.ensures.count)
