-- Moves round a list of n elements, whose places are one more.
use Rattle.std.proofs.Common.{◌≡◌, ℕ, ◌+◌, ◌*◌, ◌%◌, ◌≤◌, ap, sym, ◌∙◌, arith}
use Rattle.std.proofs.Math.Nat.{mod-add-mod, add-mod_right, add-mul-mod_self_left, mod-eq_of_lt}

-- no move
pub stay : (p n k : ℕ) → p ≤ n → k ≡ p → p ≡ k % (n + 1)
stay p n k inside e = sym (ap (λ j. j % (n + 1)) e ∙ mod-eq_of_lt {n = p} {m = n + 1} (omega (arith, inside)))

-- from where i moves lead to where one more leads
pub move_on : (p n i : ℕ) → ((p + i) % (n + 1) + 1) % (n + 1) ≡ (p + (i + 1)) % (n + 1)
move_on p n i = mod-add-mod (p + i) (n + 1) 1 ∙ ap (λ k. k % (n + 1)) (let e : p + i + 1 ≡ p + (i + 1) = omega arith in e)

pub move_back : (p n i : ℕ) → ((p + i * n) % (n + 1) + n) % (n + 1) ≡ (p + (i + 1) * n) % (n + 1)
move_back p n i = mod-add-mod (p + i * n) (n + 1) n ∙ ap (λ k. k % (n + 1)) (let e : p + i * n + n ≡ p + (i + 1) * n = omega arith in e)

-- one move more than there are elements
pub round : (p n : ℕ) → p ≤ n → (p + (n + 1)) % (n + 1) ≡ p
round p n inside = add-mod_right p (n + 1) ∙ mod-eq_of_lt {n = p} {m = n + 1} (omega (arith, inside))

pub round_back : (p n : ℕ) → p ≤ n → (p + (n + 1) * n) % (n + 1) ≡ p
round_back p n inside = add-mul-mod_self_left p (n + 1) n ∙ mod-eq_of_lt {n = p} {m = n + 1} (omega (arith, inside))
