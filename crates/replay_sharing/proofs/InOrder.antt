-- Two lists of numbers, both in order, with the same numbers, are one.
use Rattle.std.proofs.Common.{◌≡◌, ℕ, suc, ◌+◌, ◌<◌, ◌≤◌, List, [], ◌∷◌, length, get_or, eqb, refl, sym, ap, ◌∙◌, arith, lt_of_not-le}
use mathlib.Core.Logic.{dite}
use native.Mathlib.Decide.{dec_le}
use Rattle.std.proofs.lemmas.List.Sorted.{IsNonDecreasingBy-from_sort, IsNonDecreasingBy-drop, sum_by-IsPermutation}
use Rattle.std.proofs.lemmas.List.Sums.{sum_by-cons}
use Rattle.std.specs.List.Sorted.{IsPermutation, IsSorted, IsNonDecreasingBy}
use Rattle.std.specs.List.{sum_by}
use Rattle.std.specs.Ordering.{nat_cmp}
use Rattle.cordyceps_shared.specs.Counts.{one_if, times}
use Rattle.cordyceps_shared.proofs.Counting.{one_here, one_else}

-- no number is less than x
abbrev AtLeast : ℕ → List ℕ → Type 0
AtLeast x [] = Unit {0}
AtLeast x (y ∷ ys) = (x ≤ y) × AtLeast x ys

-- each number is at least those before it
abbrev pub Rises : List ℕ → Type 0
Rises [] = Unit {0}
Rises (x ∷ xs) = AtLeast x xs × Rises xs

at_least : (x : ℕ) (ys : List ℕ) → ((j : ℕ) → j < length ys → x ≤ get_or ys j 0) → AtLeast x ys
at_least x [] a = _
at_least x (y ∷ ys) a = (a 0 (omega arith), at_least x ys (λ j below. a (suc j) (omega (arith, below))))

rises : (xs : List ℕ) → IsNonDecreasingBy (λ x. x) xs → Rises xs
rises [] a = _
rises (x ∷ xs) a = (at_least x xs (λ j below. a 0 (suc j) 0 (omega arith) (omega (arith, below))), rises xs (IsNonDecreasingBy-drop (λ x. x) 1 (x ∷ xs) a))

pub rises_sorted : (xs : List ℕ) → IsSorted nat_cmp xs → Rises xs
rises_sorted xs a = rises xs (IsNonDecreasingBy-from_sort (λ x. x) xs a)

-- how often a number is in a list
counts : (n : ℕ) (xs : List ℕ) → sum_by (λ x. one_if (eqb x n)) xs ≡ times n xs
counts n [] = refl
counts n (x ∷ xs) = sum_by-cons (λ x. one_if (eqb x n)) x xs ∙ ap (λ z. one_if (eqb x n) + z) (counts n xs)

as_often : (xs ys : List ℕ) → IsPermutation xs ys → (n : ℕ) → times n ys ≡ times n xs
as_often xs ys p n = sym (counts n ys) ∙ (sum_by-IsPermutation (λ x. one_if (eqb x n)) xs ys p ∙ counts n xs)

none_below : (x : ℕ) (ys : List ℕ) → AtLeast x ys → (n : ℕ) → n < x → times n ys ≡ 0
none_below x [] a n less = refl
none_below x (y ∷ ys) a n less = omega (arith, one_else y n (λ e. omega (arith, a.0)), none_below x ys a.1 n less)

-- a number is not less than the first of a list that rises and has it
first_least : (x y : ℕ) (xs ys : List ℕ) → AtLeast y ys → times x (y ∷ ys) ≡ times x (x ∷ xs) → y ≤ x
first_least x y xs ys a same = dite (dec_le y x) (λ l. l) (λ more.
    let less = lt_of_not-le more in
    absurd (omega (arith, one_here x, same, one_else y x (λ e. omega (arith, less)), none_below y ys a x less)))

alike : (xs ys : List ℕ) → Rises xs → Rises ys → ((n : ℕ) → times n ys ≡ times n xs) → xs ≡ ys
alike [] [] a b same = refl
alike [] (y ∷ ys) a b same = absurd (omega (arith, one_here y, same y))
alike (x ∷ xs) [] a b same = absurd (omega (arith, one_here x, same x))
alike (x ∷ xs) (y ∷ ys) a b same =
    let low = first_least x y xs ys b.0 (same x) in
    let high = first_least y x ys xs a.0 (sym (same y)) in
    let first : x ≡ y = omega (arith, low, high) in
    let others = alike xs ys a.1 b.1 (λ n. omega (arith, same n, ap (λ z. one_if (eqb z n)) first)) in
    λ i. first i ∷ others i

-- what sorting made of a list whose numbers are those of a list that rises
pub sorted_as : (xs ys zs : List ℕ) → Rises xs → IsPermutation xs ys → IsPermutation ys zs → IsSorted nat_cmp zs → zs ≡ xs
sorted_as xs ys zs a p q s = sym (alike xs zs a (rises_sorted zs s) (λ n. as_often ys zs q n ∙ as_often xs ys p n))
