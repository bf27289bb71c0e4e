use Rattle.std.specs.Prelude.{Err}
use Rattle.cordyceps_queue.proofs.SharedTheory.SleeperCalls.{tries_owed, tries_blocked}
use Rattle.cordyceps_queue.proofs.laws.sleeper_is_owed.Goals as goal

pub returns-in-Err-clause-found_none : goal.returns-in-Err-clause-found_none
returns-in-Err-clause-found_none g c =
    tries_owed (Err (c.in-Err.why, c.sleep.result)) c.args.party.now c.sleep.new.party (c.clear_bell.new.party, c.try_dequeue.new.party, c.clear_bell.ensures, c.in-Err.ensures.answer, c.sleep.ensures)

pub returns-in-Err-clause-was_blocked : goal.returns-in-Err-clause-was_blocked
returns-in-Err-clause-was_blocked g c =
    tries_blocked (Err (c.in-Err.why, c.sleep.result)) c.args.party.now c.sleep.new.party (c.clear_bell.new.party, c.try_dequeue.new.party, c.clear_bell.ensures, c.in-Err.ensures.answer, c.sleep.ensures)
