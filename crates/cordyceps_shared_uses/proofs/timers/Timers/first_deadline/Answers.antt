use Rattle.std.proofs.Common.{◌≡◌, Some, max, ap, sym, ◌∙◌}
use Rattle.cordyceps_shared_uses.specs.Timers.{Running, first_time}
use Rattle.cordyceps_shared_uses.proofs.Arranging.{first_read}
use Rattle.cordyceps_shared_uses.proofs.Deadlines.{times_are}
use Rattle.cordyceps_shared_uses.proofs.timers.Timers.first_deadline.Goals as goal

pub returns : goal.returns
returns g c =
    let was = c.self.inside.queue in let (e, lies, first) = c.in_ok-front.ensures.first in
    let time : c.max.result ≡ max c.get-first.result.now.deadline was.clock = c.max.ensures ∙ ap (max c.get-first.result.now.deadline) c.now.ensures in
    ap Some time
    ∙ sym (ap (λ (t : Running g.row.P.Denot). first_time t.clock t.nodes) (sym c.self.view_is)
    ∙ first_read was.clock was.nodes c.in_ok-front.field-0 c.get-first.result.now c.self.invariant.distinct c.get-first.ensures
    (e, lies, λ a h. first _ a (times_are was.clock was.time.clock c.self.invariant.counts) h))
