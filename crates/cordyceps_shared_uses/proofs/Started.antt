-- A timer that was started lies at its spot, and all others where they lay.
use Rattle.std.proofs.Common.{◌≡◌, ℕ, zero, suc, Bool, cond, nat_lt, [], ◌∷◌, ◌++◌, slice_get, Some, refl, ap, sym, ◌∙◌, subst}
use denote.RawPtr.{Ptr}
use Rattle.cordyceps.specs.Elements.Element.{Element}
use Rattle.cordyceps.specs.Elements.Nodes.{Nodes, spots}
use Rattle.cordyceps.specs.Spots.BySpot.{HasSpot, IsTaken}
use Rattle.cordyceps.proofs.Orders.Preorder.{by_test}
use Rattle.cordyceps_shared_uses.specs.declared.timers.Timer.{Timer}
use Rattle.cordyceps_shared_uses.specs.Timers.{started, time_of}

-- what was started is all that is new
pub started_taken : {P : Type 0} (clock : ℕ) (q : Ptr) (t : Element (Timer P)) (s : Nodes (Timer P)) → IsTaken (started clock q t s) q t s
started_taken clock q t [] = ([], [], refl, refl)
started_taken {P} clock q t (x ∷ s) =
    let put : Bool → Nodes (Timer P) = λ b. cond b ((q, t) ∷ x ∷ s) (x ∷ started clock q t s) in
    let on = started_taken clock q t s in
    by_test (nat_lt (time_of clock t) (time_of clock x.1)) (λ y. ([], x ∷ s, ap put y, refl)) (λ n. (x ∷ on.0, on.1, ap put n ∙ ap (λ l. x ∷ l) on.2, ap (λ l. x ∷ l) on.3))

-- what lies at a spot without a timer lies there with it
pub left_has : {X : Type 0} (c d : Nodes X) (p q : Ptr) (e : Element X) → IsTaken c p e d → HasSpot d q → HasSpot c q
left_has {X} c d p q e (b, a, is, left) (k, at) = subst (λ s. HasSpot s q) (sym is) (go b a k (subst (λ s. slice_get (spots s) k ≡ Some q) left at)) where
  go : (b a : Nodes X) (k : ℕ) → slice_get (spots (b ++ a)) k ≡ Some q → HasSpot (b ++ (p, e) ∷ a) q
  go [] a k at = (suc k, at)
  go (x ∷ b) a zero at = (zero, at)
  go (x ∷ b) a (suc k) at = let on = go b a k at in (suc on.0, on.1)
