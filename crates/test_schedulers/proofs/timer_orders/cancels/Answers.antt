use Rattle.cordyceps.proofs.Spots.Reached.{taken_has}
use Rattle.cordyceps_shared_uses.proofs.Started.{left_has}
use Rattle.test_schedulers.proofs.timer_orders.cancels.Goals as goal

pub cancel-cancelled-requires : goal.cancel-cancelled-requires
cancel-cancelled-requires g c =
    left_has _ _ _ _ _ c.start-third.ensures.1 (left_has _ _ _ _ _ c.start-second.ensures.1 (taken_has _ _ _ _ c.start-first.ensures.1))

pub cancel-cancelled-requires-in-2 : goal.cancel-cancelled-requires-in-2
cancel-cancelled-requires-in-2 g c = left_has _ _ _ _ _ c.start-third.ensures.1 (taken_has _ _ _ _ c.start-second.ensures.1)

pub cancel-cancelled-requires-in_default : goal.cancel-cancelled-requires-in_default
cancel-cancelled-requires-in_default g c = taken_has _ _ _ _ c.start-third.ensures.1
