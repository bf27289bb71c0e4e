-- A balanced tree is not high.
use Rattle.std.proofs.Common.{◌≡◌, ◌⊎◌, inl, inr, ℕ, zero, suc, ◌+◌, ◌*◌, ◌^◌, ◌≤◌, ◌<◌, max, Bool, true, false, ◌&&◌, refl, sym, subst, arith}
use Rattle.std.proofs.Math.Nat.{pow-le-pow_left}
use Rattle.std.proofs.lemmas.Bool.{ltb-true}
use lib.Dec.{ltb}
use Rattle.cordyceps_tree.specs.Heights.{least, IsAtMostLog}
use Rattle.cordyceps_tree.specs.Trees.{Shape, leaf, node, height, size, Balanced}

least_up : (n : ℕ) → least n ≤ least (suc n)
least_up zero = omega arith
least_up (suc zero) = omega arith
least_up (suc (suc n)) = let a = least_up n in let b = least_up (suc n) in omega (arith, a, b)

pub least_le : (n m : ℕ) → n ≤ m → least n ≤ least m
least_le zero m h = omega arith
least_le (suc n) zero h = absurd (omega (arith, h))
least_le (suc zero) (suc zero) h = omega arith
least_le (suc zero) (suc (suc m)) h = let a = least_le (suc zero) (suc m) (omega arith) in let b = least_up (suc m) in omega (arith, a, b)
least_le (suc (suc n)) (suc zero) h = absurd (omega (arith, h))
least_le (suc (suc n)) (suc (suc m)) h = let a = least_le n m (omega (arith, h)) in let b = least_le (suc n) (suc m) (omega (arith, h)) in omega (arith, a, b)

grow : (a b m n : ℕ) → b ≤ suc a → least a ≤ m → least b ≤ n → least (suc b) ≤ suc (m + n)
grow a zero m n c x y = omega arith
grow a (suc b) m n c x y = let d = least_le b a (omega (arith, c)) in omega (arith, d, x, y)

-- the theorem of Adelson-Velsky and Landis
pub not_high : (t : Shape) → Balanced t → least (height t) ≤ size t
not_high leaf b = omega arith
not_high (node l p r) (c, bl, br) =
    let x = not_high l bl in let y = not_high r br in
    elim (over (height l) (height r)) [
      | inl e ↦ subst (λ z. least (suc z) ≤ suc (size l + size r)) (sym e) (let g = grow (height r) (height l) (size r) (size l) c.0 y x in omega (arith, g))
      | inr e ↦ subst (λ z. least (suc z) ≤ suc (size l + size r)) (sym e) (grow (height l) (height r) (size l) (size r) c.1 x y)
    ]
  where
    over : (a b : ℕ) → (max a b ≡ a) ⊎ (max a b ≡ b)
    over a b = grind arith

least_double : (k : ℕ) → 2 ^ k ≤ suc (least (k + k))
least_double zero = omega arith
least_double (suc k) = let a = least_double k in let b = least_up (k + k) in let e : suc k + suc k ≡ suc (suc (k + k)) = omega arith in subst (λ z. 2 ^ suc k ≤ suc (least z)) (sym e) (omega (arith, a, b))

-- a tree whose nodes can be counted has a height that fits a byte
pub not_tall : (t : Shape) → Balanced t → size t < 2 ^ 64 → height t < 130
not_tall t b few =
    let a = not_high t b in let d = least_double 65 in
    elim (low (height t)) [ inl h ↦ h | inr h ↦ let l = least_le 130 (height t) h in absurd (omega (arith, a, d, l, few)) ]
  where
    low : (n : ℕ) → (n < 130) ⊎ (130 ≤ n)
    low n = grind arith

-- ---- the logarithm
-- whether trees of k heights from h on, of which the least have a and b nodes, are low, by computation
fit : ℕ → ℕ → ℕ → ℕ → Bool
fit zero h a b = true
fit (suc k) h a b = ltb (2 ^ (25 * h)) (suc ((a + 2) ^ 36)) && fit k (suc h) b (suc (a + b))

all_fit : fit 256 0 0 1 ≡ true
unfolding fit
all_fit = refl

first_of : (x y : Bool) → (x && y) ≡ true → x ≡ true
first_of true y e = refl
first_of false y e = absurd cc

rest_of : (x y : Bool) → (x && y) ≡ true → y ≡ true
rest_of true y e = e
rest_of false y e = absurd cc

fits_at : (k h j : ℕ) → j < k → fit k h (least h) (least (suc h)) ≡ true → 2 ^ (25 * (h + j)) ≤ (least (h + j) + 2) ^ 36
unfolding fit
fits_at zero h j low e = absurd (omega (arith, low))
fits_at (suc k) h zero low e =
    let here = ltb-true (2 ^ (25 * h)) (suc ((least h + 2) ^ 36)) (first_of _ _ e) in
    subst (λ z. 2 ^ (25 * z) ≤ (least z + 2) ^ 36) (sym zero_right) (below_suc here)
  where
    zero_right : h + 0 ≡ h
    zero_right = omega arith

    below_suc : {m n : ℕ} → m < suc n → m ≤ n
    below_suc p = omega (arith, p)
fits_at (suc k) h (suc j) low e =
    let next = fits_at k (suc h) j (omega (arith, low)) (rest_of _ _ e) in
    subst (λ z. 2 ^ (25 * z) ≤ (least z + 2) ^ 36) (step h j) next
  where
    step : (m n : ℕ) → suc m + n ≡ m + suc n
    step m n = omega arith

-- a tree of a height that fits a byte has at least as many nodes as 1.44 times the logarithm asks
pub not_higher : (h n : ℕ) → h < 256 → least h ≤ n → IsAtMostLog h n
not_higher h n low enough =
    let fits : 2 ^ (25 * h) ≤ (least h + 2) ^ 36 = subst (λ z. 2 ^ (25 * z) ≤ (least z + 2) ^ 36) zero_left (fits_at 256 0 h low all_fit) in
    let up : (least h + 2) ^ 36 ≤ (n + 2) ^ 36 = pow-le-pow_left (omega (arith, enough)) 36 in
    omega (arith, fits, up)
  where
    zero_left : 0 + h ≡ h
    zero_left = omega arith
