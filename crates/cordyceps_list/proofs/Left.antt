-- What an iterator has left.
use Rattle.std.proofs.Common.{◌≡◌, ℕ, zero, suc, ◌+◌, ◌-◌, ◌<◌, [], ◌∷◌, ◌++◌, take, drop, slice_get, Some, ap, sym, ◌∙◌, arith}
use Rattle.cordyceps_base.specs.Element.{Elements, values}

first : {X : Type 0} (s : Elements X) (a m : ℕ) (x : X) → slice_get (values s) a ≡ Some x → values (take (suc m) (drop a s)) ≡ x ∷ values (take m (drop (suc a) s))
first [] zero m x h = absurd cc
first [] (suc a) m x h = absurd cc
first (e ∷ s) zero m x h = let k : e.value ≡ x = cc in ap (λ y. y ∷ values (take m s)) k
first (e ∷ s) (suc a) m x h = first s a m x h

last : {X : Type 0} (s : Elements X) (a m j : ℕ) (x : X) → j ≡ a + m → slice_get (values s) j ≡ Some x → values (take (suc m) (drop a s)) ≡ values (take m (drop a s)) ++ x ∷ []
last [] a m zero x q h = absurd cc
last [] a m (suc j) x q h = absurd cc
last (e ∷ s) zero zero zero x q h = let k : e.value ≡ x = cc in ap (λ y. y ∷ []) k
last (e ∷ s) zero zero (suc j) x q h = absurd (omega arith)
last (e ∷ s) zero (suc m) zero x q h = absurd (omega arith)
last (e ∷ s) zero (suc m) (suc j) x q h = ap (λ t. e.value ∷ t) (last s zero m j x (omega arith) h)
last (e ∷ s) (suc a) m zero x q h = absurd (omega arith)
last (e ∷ s) (suc a) m (suc j) x q h = last s a m j x (omega arith) h

-- the first of the values at the places from a to before b
pub first_left : {X : Type 0} (s : Elements X) (a b : ℕ) (x : X) → a < b → slice_get (values s) a ≡ Some x → values (take (b - a) (drop a s)) ≡ x ∷ values (take (b - (a + 1)) (drop (a + 1) s))
first_left s a b x l h =
    let n : b - a ≡ suc (b - (a + 1)) = omega arith in
    let i : a + 1 ≡ suc a = omega arith in
    ap (λ k. values (take k (drop a s))) n ∙ first s a (b - (a + 1)) x h ∙ ap (λ k. x ∷ values (take (b - (a + 1)) (drop k s))) (sym i)

-- the last of them
pub last_left : {X : Type 0} (s : Elements X) (a b : ℕ) (x : X) → a < b → slice_get (values s) (b - 1) ≡ Some x → values (take (b - a) (drop a s)) ≡ values (take (b - 1 - a) (drop a s)) ++ x ∷ []
last_left s a b x l h =
    let n : b - a ≡ suc (b - 1 - a) = omega arith in
    ap (λ k. values (take k (drop a s))) n ∙ last s a (b - 1 - a) (b - 1) x (omega arith) h
