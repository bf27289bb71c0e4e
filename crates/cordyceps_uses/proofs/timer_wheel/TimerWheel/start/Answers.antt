use Rattle.std.proofs.Common.{◌≡◌, inl, inr, subst, sym, ap, ◌∙◌, ◌%◌, ◌⊎◌, [], ◌∷◌, ◌++◌, length, set, arith}
use Rattle.cordyceps.specs.Elements.Nodes.{Nodes}
use Rattle.cordyceps.specs.Spots.Agreeing.{HasElementAt}
use Rattle.cordyceps.proofs.Spots.Holding.{joined_is_at}
use Rattle.cordyceps_uses.specs.declared.timer_wheel.Timer.{Timer}
use Rattle.cordyceps_uses.specs.TimerWheel.{dial, waiting, Ahead, IsGood}
use Rattle.cordyceps_uses.proofs.Turning.{at_slot, only_is_at, put_in_place, started_good}
use Rattle.cordyceps_uses.proofs.timer_wheel.TimerWheel.start.Goals as goal

pub invariant_of-self : goal.invariant_of-self
invariant_of-self g c =
    let t = c.self.inside.time in
    let d = c.id-deadline.result in
    let slots = c.self.inside.slots.items in
    let is = c.slot-slot.ensures ∙ sym (ap (λ w. d % length w.slots) c.self.view_is) in
    let at = at_slot t c.slot-slot.result d slots c.index_mut.result.now is c.self.invariant.0 c.index_mut.ensures.value in
    let ahead : Ahead d (dial t slots) = (c.if-deadline-self.false, omega (arith, c.if-deadline-self.false, c.if-deadline-self-2.false, c.len.ensures)) in
    let last : Nodes (Timer _) = (c.push_back-spot.result, c.args.timer) ∷ [] in
    put_in_place t c.slot-slot.result d slots c.push_back-spot.new.self is c.self.invariant
    (λ q e lies. elim (joined_is_at c.index_mut.result.now last q e (subst (λ l. HasElementAt l q e) c.push_back-spot.ensures.holds lies)) as (λ _. HasElementAt (waiting d (dial t slots)) q e ⊎ ((e.id ≡ d) × Ahead d (dial t slots))) [
      | inl old ↦ inl (subst (λ l. HasElementAt l q e) (sym at) old)
      | inr new ↦ inr (ap (λ n. n.id) (only_is_at c.push_back-spot.result q c.args.timer e new) ∙ sym c.id-deadline.ensures, ahead)
    ])

pub returns-clause-good : goal.returns-clause-good
returns-clause-good g c =
    let t = c.self.inside.time in
    let d = c.id-deadline.result in
    let slots = c.self.inside.slots.items in
    let is = c.slot-slot.ensures ∙ sym (ap (λ w. d % length w.slots) c.self.view_is) in
    let at = at_slot t c.slot-slot.result d slots c.index_mut.result.now is c.self.invariant.0 c.index_mut.ensures.value in
    let last : Nodes (Timer _) = (c.push_back-spot.result, c.args.timer) ∷ [] in
    let held = c.push_back-spot.ensures.holds ∙ sym (ap (λ l. l ++ last) at) in
    let put : dial t (set slots c.slot-slot.result c.push_back-spot.new.self) ≡ dial t (set slots (d % length slots) (waiting d (dial t slots) ++ last)) = λ i. dial t (set slots (is i) (held i)) in
    subst (λ w. IsGood d c.push_back-spot.result w) (sym put) (started_good (dial t slots) d c.push_back-spot.result c.args.timer c.self.invariant.0)
