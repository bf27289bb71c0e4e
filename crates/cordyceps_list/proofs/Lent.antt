-- What an `IterMut` lends and does not change.
use Rattle.std.proofs.Common.{◌≡◌, ℕ, zero, suc, ◌+◌, ◌-◌, ◌<◌, [], ◌∷◌, ◌++◌, take, drop, Option, Some, None, slice_get, inl, inr, refl, sym, ap, ◌∙◌, arith}
use Rattle.std.specs.Prelude.{nat_lt, if◌then◌else◌}
use Rattle.std.specs.Iterator.{YieldsFirst, YieldsLast}
use Rattle.std.proofs.lemmas.Bool.{cases_lt}
use Rattle.std.proofs.lemmas.Bool.Decides.{nat_tests}
use Rattle.cordyceps_base.specs.Element.{Elements, values, with_value}
use Rattle.cordyceps_list.specs.declared.iter_mut.IterMut.{IterMut}
use Rattle.cordyceps_list.specs.IterMut.{elements, from, to, to_lend, lender, Spans}
use Rattle.cordyceps_list.proofs.Left.{first_left, last_left}

-- what is lent stands within the range
pub lent_some : {X : Type 0} (o : Option X) (k n : ℕ) (x : X) → Some x ≡ (if nat_lt k n then o else None) → (k < n) × (o ≡ Some x)
lent_some o k n x is = elim (cases_lt k n) [
  | inl below ↦ (below, grind (arith, nat_tests))
  | inr past ↦ absurd (grind (arith, nat_tests))
]

-- a value that is written once more
pub same_value : {X : Type 0} (s : Elements X) (k : ℕ) (x : X) → slice_get (values s) k ≡ Some x → with_value s k x ≡ s
same_value [] k x h = refl
same_value (e ∷ s) zero x h = let v : x ≡ e.value = cc in ap (λ w. record e { value = w } ∷ s) v
same_value (e ∷ s) (suc k) x h = ap (λ t. e ∷ t) (same_value s k x h)

module _ {X : Type 0} (old new : IterMut X) where
  -- it still borrows the same list with the same elements
  abbrev pub Keeps : Type 0
  Keeps = (lender new ≡ lender old) × (elements new ≡ elements old)

  pub first_lent : (x : X) → Some x ≡ (if nat_lt (from old) (to old) then slice_get (values (elements old)) (from old) else None)
      → Spans old new (with_value (elements old) (from old) x) (from old + 1) (to old) → Keeps × YieldsFirst to_lend old (Some x) new
  first_lent x value spans =
      let at = lent_some (slice_get (values (elements old)) (from old)) (from old) (to old) x value in
      let same = spans.elements_are ∙ same_value (elements old) (from old) x at.1 in
      ((spans.same_reference, same), first_left (elements old) (from old) (to old) x at.0 at.1 ∙ (λ i. x ∷ values (take (sym spans.to_is i - sym spans.from_is i) (drop (sym spans.from_is i) (sym same i)))))

  pub last_lent : (x : X) → Some x ≡ (if nat_lt (from old) (to old) then slice_get (values (elements old)) (to old - 1) else None)
      → Spans old new (with_value (elements old) (to old - 1) x) (from old) (to old - 1) → Keeps × YieldsLast to_lend old (Some x) new
  last_lent x value spans =
      let at = lent_some (slice_get (values (elements old)) (to old - 1)) (from old) (to old) x value in
      let same = spans.elements_are ∙ same_value (elements old) (to old - 1) x at.1 in
      ((spans.same_reference, same), last_left (elements old) (from old) (to old) x at.0 at.1 ∙ (λ i. values (take (sym spans.to_is i - sym spans.from_is i) (drop (sym spans.from_is i) (sym same i))) ++ x ∷ []))
