use Rattle.std.proofs.Common.{subst, sym, ap, ◌∙◌, ◌%◌, ◌<◌, ◌≡◌, ◌+◌, length, set}
use Rattle.std.specs.List.{All}
use Rattle.cordyceps.specs.Elements.Nodes.{elements}
use Rattle.cordyceps_uses.specs.TimerWheel.{dial, IsInPlace}
use Rattle.cordyceps_uses.proofs.Turning.{all_due, at_slot, tick_in_place}
use Rattle.cordyceps_uses.proofs.timer_wheel.TimerWheel.tick.Goals as goal

pub invariant_of-self : goal.invariant_of-self
invariant_of-self g c =
    let t = c.self.inside.time in
    let slots = c.self.inside.slots.items in
    let is = c.slot-slot.ensures ∙ sym (ap (λ w. t % length w.slots) c.self.view_is) in
    subst (λ l. (0 < length (set slots c.slot-slot.result l)) × IsInPlace (dial (t + 1) (set slots c.slot-slot.result l))) (sym (c.replace-due.ensures.after ∙ c.new.ensures)) (tick_in_place t c.slot-slot.result slots is c.self.invariant)

pub returns-clause-due : goal.returns-clause-due
returns-clause-due g c =
    let t = c.self.inside.time in
    let slots = c.self.inside.slots.items in
    let is = c.slot-slot.ensures ∙ sym (ap (λ w. t % length w.slots) c.self.view_is) in
    let at = at_slot t c.slot-slot.result t slots c.index_mut.result.now is c.self.invariant.0 c.index_mut.ensures.value in
    let out = ap elements (at ∙ sym c.replace-due.ensures.value) ∙ sym c.into_list.ensures in
    subst (λ w. All (λ e. e.id ≡ w.time) c.into_list.result) c.self.view_is (subst (λ s. All (λ e. e.id ≡ t) s) out (all_due t slots c.self.invariant.1))
