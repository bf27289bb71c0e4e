use Rattle.std.proofs.Common.{inl, subst, sym, ap, ◌∙◌, ◌%◌, length}
use Rattle.cordyceps.specs.Spots.BySpot.{IsTaken}
use Rattle.cordyceps.specs.Spots.Agreeing.{HasElementAt}
use Rattle.cordyceps.proofs.Spots.Holding.{left_is_at}
use Rattle.cordyceps_uses.specs.TimerWheel.{waiting}
use Rattle.cordyceps_uses.proofs.Turning.{at_slot, put_in_place, put_seen}
use Rattle.cordyceps_uses.proofs.timer_wheel.TimerWheel.cancel.Goals as goal

pub invariant_of-self : goal.invariant_of-self
invariant_of-self g c =
    let t = c.self.inside.time in
    let d = c.args.ticket.deadline in
    let slots = c.self.inside.slots.items in
    let is = c.slot-slot.ensures ∙ sym (ap (λ w. d % length w.slots) c.self.view_is) in
    let at = at_slot t c.slot-slot.result d slots c.index_mut.result.now is c.self.invariant.0 c.index_mut.ensures.value in
    put_in_place t c.slot-slot.result d slots c.remove.new.self is c.self.invariant
    (λ q e lies. inl (subst (λ l. HasElementAt l q e) (sym at) (left_is_at c.index_mut.result.now c.remove.new.self c.args.ticket.spot q c.remove.result e c.remove.ensures.taken lies)))

pub returns : goal.returns
returns g c =
    let t = c.self.inside.time in
    let d = c.args.ticket.deadline in
    let slots = c.self.inside.slots.items in
    let is = c.slot-slot.ensures ∙ sym (ap (λ w. d % length w.slots) c.self.view_is) in
    let at = at_slot t c.slot-slot.result d slots c.index_mut.result.now is c.self.invariant.0 c.index_mut.ensures.value in (
      c.remove.new.self,
      subst (λ l. IsTaken l c.args.ticket.spot c.remove.result c.remove.new.self) (sym at ∙ ap (waiting d) c.self.view_is) c.remove.ensures.taken,
      put_seen c.args.self.now t c.slot-slot.result d slots c.remove.new.self is c.self.view_is,
    )
