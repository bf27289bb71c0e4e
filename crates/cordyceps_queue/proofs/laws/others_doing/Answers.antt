use Rattle.cordyceps_queue.proofs.SharedTheory.OthersDoing.{busy_is_anothers, blocked_is_anothers, blocked_try_is_anothers}
use Rattle.cordyceps_queue.proofs.laws.others_doing.Goals as goal

pub returns-clause-busy : goal.returns-clause-busy
returns-clause-busy g c = busy_is_anothers

pub returns-clause-blocked : goal.returns-clause-blocked
returns-clause-blocked g c = blocked_is_anothers

pub returns-clause-blocked_try : goal.returns-clause-blocked_try
returns-clause-blocked_try g c = blocked_try_is_anothers
