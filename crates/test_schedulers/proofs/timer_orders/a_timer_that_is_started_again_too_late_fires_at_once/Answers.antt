use Rattle.cordyceps.proofs.Spots.Reached.{taken_has}
use Rattle.test_schedulers.proofs.timer_orders.a_timer_that_is_started_again_too_late_fires_at_once.Goals as goal

pub cancel-cancelled-requires : goal.cancel-cancelled-requires
cancel-cancelled-requires g c = taken_has _ _ _ _ c.start-spot.ensures.1
