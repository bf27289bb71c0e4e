use Rattle.std.proofs.Common.{refl}
use Rattle.cordyceps_queue.proofs.shared.calls.MpscQueue.try_consume_owned.Goals as goal

pub returns-in-Ok-clause-answer : goal.returns-in-Ok-clause-answer
returns-in-Ok-clause-answer g c = (refl, c.in-Ok.ensures.answer)

pub returns-in-Ok-clause-whole : goal.returns-in-Ok-clause-whole
returns-in-Ok-clause-whole g c = λ _. refl
