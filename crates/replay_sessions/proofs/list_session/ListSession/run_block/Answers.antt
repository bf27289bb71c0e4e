use Rattle.std.proofs.Common.{refl}
use Rattle.replay_sessions.proofs.list_session.ListSession.run_block.Goals as goal

pub returns-in_default-clause-back : goal.returns-in_default-clause-back
returns-in_default-clause-back c = rw (c.block_of.ensures c.args.block refl) (refl, c.in_default.ensures.err)
