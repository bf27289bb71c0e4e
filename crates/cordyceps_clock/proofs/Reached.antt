-- Which spots a queue of times has, by what its calls say.
use Rattle.std.proofs.Common.{◌≡◌, zero, suc, List, [], ◌∷◌, ◌++◌, refl, sym, ap, subst, ◌⊎◌, inl, inr, arith}
use Rattle.std.proofs.lemmas.List.Sorted.{Contains-permutation, IsPermutation-sym}
use Rattle.std.specs.List.{Contains}
use Rattle.std.specs.List.Sorted.{IsPermutation}
use denote.RawPtr.{Ptr}
use Rattle.cordyceps_base.specs.BySpot.{HasSpot, IsTaken}
use Rattle.cordyceps_base.specs.Element.{Element}
use Rattle.cordyceps_base.specs.Nodes.{Nodes}
use Rattle.cordyceps_stable.specs.Agreeing.{HasElementAt}
use Rattle.cordyceps_stable.proofs.Holding.{has_split, left_is_at, spot_is_at, taken_or_left}
use Rattle.cordyceps_stable.proofs.Reached.{taken_has}

module _ {Y : Type 0} where
  contains_at : (b a : List Y) (x : Y) → Contains (b ++ x ∷ a) x
  contains_at [] a x = (0, omega arith, refl)
  contains_at (y ∷ b) a x = let (k, within, at) = contains_at b a x in (suc k, omega (arith, within), at)

  contained_at : (c : List Y) (x : Y) → Contains c x → (b : List Y) × (a : List Y) × (c ≡ b ++ x ∷ a)
  contained_at [] x (k, within, at) = absurd (omega (arith, within))
  contained_at (y ∷ c) x (zero, within, at) = ([], c, ap (λ z. z ∷ c) at)
  contained_at (y ∷ c) x (suc k, within, at) =
      let (before, after, is) = contained_at c x (k, omega (arith, within), at) in
      (y ∷ before, after, ap (λ s. y ∷ s) is)

module _ {X : Type 0} where
  -- where an element was put in, the spots from before are there
  pub put_keeps : (c d : Nodes X) (p q : Ptr) (e : Element X) → IsTaken d p e c → HasSpot c q → HasSpot d q
  put_keeps c d p q e put (k, at) =
      let (o, lies) = has_split c k q at in spot_is_at d q o (left_is_at d c p q e o put lies)

  -- where an element was changed, all are there
  pub changed_keeps : (c d rest : Nodes X) (p q : Ptr) (e o : Element X) → IsTaken c p e rest → IsTaken d p o rest
      → HasSpot c q → HasSpot d q
  changed_keeps c d rest p q e o was is (k, at) =
      let (x, lies) = has_split c k q at in
      elim (taken_or_left c rest p q e x was lies) as (λ _. HasSpot d q) [
        | inl same ↦ subst (HasSpot d) (sym same.0) (taken_has d rest p o is)
        | inr on ↦ put_keeps rest d p q o is (spot_is_at rest q x on)
      ]

  -- in another order of the nodes they lie where they lay
  permuted_is_at : (c d : Nodes X) (q : Ptr) (o : Element X) → IsPermutation c d → HasElementAt c q o
      → HasElementAt d q o
  permuted_is_at c d q o moved (b, a, is) =
      let there = subst (λ s. Contains s (q, o)) (sym is) (contains_at b a (q, o)) in
      contained_at d (q, o) (Contains-permutation c d (q, o) moved there)

  pub permuted_keeps : (c d : Nodes X) (q : Ptr) → IsPermutation c d → HasSpot c q → HasSpot d q
  permuted_keeps c d q moved (k, at) =
      let (e, lies) = has_split c k q at in spot_is_at d q e (permuted_is_at c d q e moved lies)

  -- where one came out, each other is there
  pub popped_keeps : (c d : Nodes X) (p q : Ptr) (e : Element X) → IsPermutation ((p, e) ∷ d) c → HasSpot c q
      → HasSpot d q ⊎ HasElementAt c q e
  popped_keeps c d p q e kept (k, at) =
      let (o, lies) = has_split c k q at in
      let on = permuted_is_at c ((p, e) ∷ d) q o (IsPermutation-sym ((p, e) ∷ d) c kept) lies in
      elim (taken_or_left ((p, e) ∷ d) d p q e o ([], d, refl, refl) on) as (λ _. HasSpot d q ⊎ HasElementAt c q e) [
        | inl same ↦ inr (subst (HasElementAt c q) same.1 lies)
        | inr left ↦ inl (spot_is_at d q o left)
      ]
