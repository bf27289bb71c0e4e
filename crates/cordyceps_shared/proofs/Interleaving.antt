-- What holds of two lists holds of their interleavings.
use Rattle.std.proofs.Common.{◌≡◌, ℕ, ◌+◌, List, [], ◌∷◌, ◌++◌, flat_map, length, refl, sym, ap, ◌∙◌, subst, inl, inr, arith}
use Rattle.std.proofs.lemmas.List.Sorted.{IsPermutation-refl, IsPermutation-cons, IsPermutation-middle, IsPermutation-trans}
use Rattle.std.specs.List.Sorted.{IsPermutation}
use Rattle.cordyceps_shared.specs.Counts.{tally}
use Rattle.cordyceps_shared.specs.Interleaving.{Interleaves}

module _ {A : Type 0} where
  -- ---- one of the two is empty
  pub all_left : (xs : List A) → Interleaves xs [] xs
  all_left [] = (refl, refl)
  all_left (x ∷ xs) = inl (xs, refl, all_left xs)

  pub all_right : (ys : List A) → Interleaves [] ys ys
  all_right [] = (refl, refl)
  all_right (y ∷ ys) = inr (ys, refl, all_right ys)

  pub only_left : (xs zs : List A) → Interleaves xs [] zs → zs ≡ xs
  only_left xs [] h = sym h.0
  only_left xs (z ∷ zs) (inl h) = ap (λ k. z ∷ k) (only_left h.0 zs h.2) ∙ sym h.1
  only_left xs (z ∷ zs) (inr h) = let none = h.1 in absurd (cc)

  pub only_right : (ys zs : List A) → Interleaves [] ys zs → zs ≡ ys
  only_right ys [] h = sym h.1
  only_right ys (z ∷ zs) (inl h) = let none = h.1 in absurd (cc)
  only_right ys (z ∷ zs) (inr h) = ap (λ k. z ∷ k) (only_right h.0 zs h.2) ∙ sym h.1

  -- ---- other lists
  pub interleaves_same : (xs us ys vs zs ws : List A) → xs ≡ us → ys ≡ vs → zs ≡ ws → Interleaves xs ys zs
      → Interleaves us vs ws
  interleaves_same xs us ys vs zs ws first second both h =
      subst (λ (t : List A × (List A × List A)). Interleaves t.0 t.1.0 t.1.1) (λ i. (first i, (second i, both i))) h

  pub interleaves_turned : (xs ys zs : List A) → Interleaves xs ys zs → Interleaves ys xs zs
  interleaves_turned xs ys [] h = (h.1, h.0)
  interleaves_turned xs ys (z ∷ zs) (inl h) = inr (h.0, h.1, interleaves_turned h.0 ys zs h.2)
  interleaves_turned xs ys (z ∷ zs) (inr h) = inl (h.0, h.1, interleaves_turned xs h.0 zs h.2)

  pub interleaves_append : (xs ys zs us vs ws : List A) → Interleaves xs ys zs → Interleaves us vs ws
      → Interleaves (xs ++ us) (ys ++ vs) (zs ++ ws)
  interleaves_append xs ys [] us vs ws h more =
      interleaves_same us (xs ++ us) vs (ys ++ vs) ws ws (ap (λ k. k ++ us) (sym h.0)) (ap (λ k. k ++ vs) (sym h.1)) refl more
  interleaves_append xs ys (z ∷ zs) us vs ws (inl h) more = inl (h.0 ++ us, ap (λ k. k ++ us) h.1, interleaves_append h.0 ys zs us vs ws h.2 more)
  interleaves_append xs ys (z ∷ zs) us vs ws (inr h) more = inr (h.0 ++ vs, ap (λ k. k ++ vs) h.1, interleaves_append xs h.0 zs us vs ws h.2 more)

  -- ---- sums, lengths and orders
  pub tally_interleaved : (f : A → ℕ) (xs ys zs : List A) → Interleaves xs ys zs → tally f zs ≡ tally f xs + tally f ys
  tally_interleaved f xs ys [] h = let first = ap (tally f) h.0 in let second = ap (tally f) h.1 in omega arith
  tally_interleaved f xs ys (z ∷ zs) (inl h) = let first = ap (tally f) h.1 in omega (arith, tally_interleaved f h.0 ys zs h.2)
  tally_interleaved f xs ys (z ∷ zs) (inr h) = let second = ap (tally f) h.1 in omega (arith, tally_interleaved f xs h.0 zs h.2)

  pub length_interleaved : (xs ys zs : List A) → Interleaves xs ys zs → length zs ≡ length xs + length ys
  length_interleaved xs ys [] h =
      let first = ap (λ (k : List A). length k) h.0 in let second = ap (λ (k : List A). length k) h.1 in omega arith
  length_interleaved xs ys (z ∷ zs) (inl h) = let first = ap (λ (k : List A). length k) h.1 in omega (arith, length_interleaved h.0 ys zs h.2)
  length_interleaved xs ys (z ∷ zs) (inr h) = let second = ap (λ (k : List A). length k) h.1 in omega (arith, length_interleaved xs h.0 zs h.2)

  pub interleaved_permutes : (xs ys zs : List A) → Interleaves xs ys zs → IsPermutation (xs ++ ys) zs
  interleaved_permutes xs ys [] e = subst (λ (p : List A × List A). IsPermutation (p.0 ++ p.1) []) (λ i. (sym e.0 i, sym e.1 i)) (IsPermutation-refl [])
  interleaved_permutes xs ys (z ∷ zs) (inl e) =
      subst (λ us. IsPermutation (us ++ ys) (z ∷ zs)) (sym e.1) (IsPermutation-cons z (e.0 ++ ys) zs (interleaved_permutes e.0 ys zs e.2))
  interleaved_permutes xs ys (z ∷ zs) (inr e) =
      subst (λ us. IsPermutation (xs ++ us) (z ∷ zs)) (sym e.1)
      (IsPermutation-trans (xs ++ z ∷ e.0) (z ∷ (xs ++ e.0)) (z ∷ zs) (IsPermutation-middle xs z e.0) (IsPermutation-cons z (xs ++ e.0) zs (interleaved_permutes xs e.0 zs e.2)))

module _ {A B : Type 0} where
  -- ---- what each item gives
  pub interleaves_flat_map : (f : A → List B) (xs ys zs : List A) → Interleaves xs ys zs
      → Interleaves (flat_map f xs) (flat_map f ys) (flat_map f zs)
  interleaves_flat_map f xs ys [] h = (ap (flat_map f) h.0, ap (flat_map f) h.1)
  interleaves_flat_map f xs ys (z ∷ zs) (inl h) = subst (λ k. Interleaves (flat_map f k) (flat_map f ys) (flat_map f (z ∷ zs))) (sym h.1)
      (interleaves_append (f z) [] (f z) (flat_map f h.0) (flat_map f ys) (flat_map f zs) (all_left (f z)) (interleaves_flat_map f h.0 ys zs h.2))
  interleaves_flat_map f xs ys (z ∷ zs) (inr h) = subst (λ k. Interleaves (flat_map f xs) (flat_map f k) (flat_map f (z ∷ zs))) (sym h.1)
      (interleaves_append [] (f z) (f z) (flat_map f xs) (flat_map f h.0) (flat_map f zs) (all_right (f z)) (interleaves_flat_map f xs h.0 zs h.2))
