use Rattle.std.proofs.Common.{sym, subst}
use Rattle.cordyceps_uses.specs.TimerWheel.{IsGood}
use Rattle.cordyceps_uses.proofs.Turning.{stays_good}
use Rattle.test_programs.proofs.wheels.a_cancelled_timer_comes_back.Goals as goal

pub cancel-node-requires : goal.cancel-node-requires
cancel-node-requires g c =
    let stays = stays_good c.start.new.self c.timer-second.result.id c.in-Ok.ticket.deadline c.in-Ok.ticket.spot c.in-Ok-start.other.spot c.timer-second.result c.in-Ok.ensures.good in
    subst (λ w. IsGood c.in-Ok.ticket.deadline c.in-Ok.ticket.spot w) (sym c.in-Ok-start.ensures.started) stays
