-- What a call of the chain says, said of the list and of its spots.
use Rattle.std.proofs.Common.{◌≡◌, ℕ, zero, suc, Bool, [], ◌∷◌, length, slice_get, Option, Some, None, MatchOption, sym, ap, subst, arith}
use Rattle.std.specs.Bool.{Decides}
use denote.RawPtr.{Ptr}
use Rattle.cordyceps_base.specs.declared.boxes.Address.{Address}
use Rattle.cordyceps_base.specs.Element.{Element}
use Rattle.cordyceps_base.specs.BySpot.{IsFirst, IsLast, IsMovedAfter}
use Rattle.cordyceps_base.specs.Nodes.{Nodes, spots}
use Rattle.cordyceps_stable.specs.Walk.{Place}

-- what holds of an address, if there is one, holds of its spot
spot_matches : (o : Option Address) (r : Option Ptr) → MatchOption o (r ≡ None) (λ p. r ≡ Some p.ptr) → (A : Type 0) (B : Ptr → Type 0) → MatchOption o A (λ p. B p.ptr) → MatchOption r A B
spot_matches None r e A B h = subst (λ s. MatchOption s A B) (sym e) h
spot_matches (Some p) r e A B h = subst (λ s. MatchOption s A B) (sym e) h

module _ {X : Type 0} where
  -- which spot is at an end
  pub first_is : (c : Nodes X) (p : Ptr) → slice_get (spots c) 0 ≡ Some p → IsFirst c p
  first_is [] p at = absurd cc
  first_is (n ∷ c) p at = let same : n.0 ≡ p = cc in (n.1, c, λ i. (same i, n.1) ∷ c)

  pub last_is : (c : Nodes X) (k : ℕ) (p : Ptr) → suc k ≡ length c → slice_get (spots c) k ≡ Some p → IsLast c p
  last_is [] k p long at = absurd (omega (arith, long))
  last_is (n ∷ []) zero p long at = let same : n.0 ≡ p = cc in ([], n.1, λ i. (same i, n.1) ∷ [])
  last_is (n ∷ []) (suc k) p long at = absurd (omega (arith, long))
  last_is (n ∷ m ∷ c) zero p long at = absurd (omega (arith, long))
  last_is (n ∷ m ∷ c) (suc k) p long at = let (before, e, is) = last_is (m ∷ c) k p (omega (arith, long)) at in (n ∷ before, e, ap (λ s. n ∷ s) is)

  -- which spot is beside another
  pub step_said : (A : Nodes X → Ptr → Type 0) (B : Nodes X → Ptr → Ptr → Type 0) (o : Option Address) (r : Option Ptr) → MatchOption o (r ≡ None) (λ s. r ≡ Some s.ptr) → (c d : Nodes X) (p q : Ptr) → MatchOption o (A c p) (λ s. B c p s.ptr) → c ≡ d → p ≡ q → MatchOption r (A d q) (B d q)
  step_said A B o r same c d p q h view at =
      spot_matches o r same (A d q) (B d q) (subst (λ (l : Nodes X × Ptr). MatchOption o (A l.0 l.1) (λ s. B l.0 l.1 s.ptr)) (λ i. (view i, at i)) h)

  -- whether an end is at a spot
  pub end_told : (P : Nodes X → Ptr → Type 0) (b : Bool) (c d : Nodes X) (p q : Ptr) → Decides b (P c p) → c ≡ d → p ≡ q → Decides b (P d q)
  end_told P b c d p q h view at = subst (λ (l : Nodes X × Ptr). Decides b (P l.0 l.1)) (λ i. (view i, at i)) h

  -- where an element was put in
  pub put_said : (P : Nodes X → Ptr → Ptr → Element X → Nodes X → Type 0) (c d : Nodes X) (p q r : Ptr) (e o : Element X) (n : Nodes X) → P c p r e n → c ≡ d → p ≡ q → e ≡ o → P d q r o n
  put_said P c d p q r e o n h view at is = subst (λ (l : Nodes X × Ptr × Element X). let (nodes, spot, element) = l in P nodes spot r element n) (λ i. (view i, at i, is i)) h

  -- where an element was moved
  pub move_said : (P : Nodes X → Ptr → Nodes X → Type 0) (c d : Nodes X) (p q : Ptr) (m n : Nodes X) → P c p m → c ≡ d → p ≡ q → n ≡ m → P d q n
  move_said P c d p q m n h view at same = subst (λ (l : Nodes X × Ptr × Nodes X). let (nodes, spot, moved) = l in P nodes spot moved) (λ i. (view i, at i, sym same i)) h

  pub moved_after_said : (c d : Nodes X) (p q r s : Ptr) (m n : Nodes X) → IsMovedAfter c p r m → c ≡ d → p ≡ q → r ≡ s → n ≡ m → IsMovedAfter d q s n
  moved_after_said c d p q r s m n h view at to same =
      subst (λ (l : Nodes X × Ptr × Ptr × Nodes X). let (nodes, spot, other, moved) = l in IsMovedAfter nodes spot other moved) (λ i. (view i, at i, to i, sym same i)) h

  -- where a cursor comes to
  pub place_said : (P : Nodes X → Option Ptr → Option Ptr → Type 0) (c : Nodes X) (o r q : Option Ptr) (s : Place X) → P c q r → o ≡ q → ◌≡◌ {A = Place X} (record { nodes = c; spot = o }) s → P s.nodes s.spot r
  place_said P c o r q s h is view = subst (λ (l : Place X). P l.nodes l.spot r) view (subst (λ w. P c w r) (sym is) h)
