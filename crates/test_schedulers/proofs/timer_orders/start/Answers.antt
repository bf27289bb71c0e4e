use Rattle.std.proofs.Common.{sym, subst}
use Rattle.cordyceps.specs.Elements.Element.{Element}
use Rattle.cordyceps.specs.Spots.BySpot.{IsTaken}
use Rattle.test_support.specs.declared.counted.Counted.{Counted}
use Rattle.cordyceps_shared_uses.specs.declared.timers.Timer.{Timer}
use Rattle.cordyceps_shared_uses.specs.Timers.{new_timer}
use Rattle.cordyceps_shared_uses.proofs.Started.{started_taken}
use Rattle.test_schedulers.proofs.timer_orders.start.Goals as goal

pub returns : goal.returns
returns g c =
    let was = c.args.timers.now in
    let timer : Element (Timer Counted) = new_timer c.args.deadline c.counted.result in
    (timer, subst (λ s. IsTaken s c.in-Ok.spot timer was.nodes) (sym c.in-Ok.ensures.started) (started_taken was.clock c.in-Ok.spot timer was.nodes))
