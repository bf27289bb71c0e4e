use Rattle.std.specs.Prelude.{ℕ, Some}
use Rattle.replay_sessions.specs.OpenBlocks.{IsOpen}
use Rattle.replay_sessions.proofs.ListLines.{may_run, not_ended}
use Rattle.replay_sessions.proofs.list_session.ListSessionSession.end.Goals as goal

pub run_block-requires : goal.run_block-requires
run_block-requires c = let ready : IsOpen (Some c.in-Some.block) = rw (← c.in-Some.ensures.value) at c.requires in may_run (Some c.in-Some.block) ready

pub returns-in-Err-clause-ended : goal.returns-in-Err-clause-ended
returns-in-Err-clause-ended c =
    rw (← c.in-Some.ensures.value) (not_ended {E = ℕ} 0 c.args.self.now.lists c.run_block.new.self.lists c.in-Some.block c.in-Err.back c.args.text.now.items c.run_block.new.text.items c.in-Err.ensures.back c.in-Err.ensures.err)
