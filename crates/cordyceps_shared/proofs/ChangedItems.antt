-- What holds of each item of a list still does after items changed or a new one came.
use Rattle.std.proofs.Common.{◌≡◌, ◌≢◌, ◌⊎◌, ℕ, zero, suc, List, [], ◌∷◌, ◌++◌, length, set, refl, sym, ap, subst, inl, inr, ⊎_elim}
use mathlib.Core.Option.{some, some-injective, some-ne-none}
use lib.ListN.{get_elem?}
use Rattle.atomic_table.proofs.Lists.{at_set}

-- of a list with one more item
pub at_end : {A : Type 0} (l : List A) (a b : A) (j : ℕ) → get_elem? (l ++ a ∷ []) j ≡ some b → (get_elem? l j ≡ some b) ⊎ ((j ≡ length l) × (a ≡ b))
at_end [] a b zero e = inr (refl, some-injective a b e)
at_end [] a b (suc j) e = absurd (some-ne-none b (sym e))
at_end (x ∷ xs) a b zero e = inl e
at_end (x ∷ xs) a b (suc j) e = ⊎_elim (λ t. inl t) (λ t. inr (ap suc t.0, t.1)) (at_end xs a b j e)

module _ {A : Type 0} where
  -- one item changed, of which it holds too
  pub one_set : (Holds : ℕ → A → Type 0) (xs : List A) (i : ℕ) (a : A) → Holds i a → ((k : ℕ) (x : A) → k ≢ i → get_elem? xs k ≡ some x → Holds k x) → (k : ℕ) (x : A) → get_elem? (set xs i a) k ≡ some x → Holds k x
  one_set Holds xs i a here others k x e = ⊎_elim
      (λ (t : (k ≡ i) × (a ≡ x)). subst (λ (z : ℕ × A). Holds z.0 z.1) (λ c. (sym t.0 c, t.1 c)) here)
      (λ (t : (k ≢ i) × (get_elem? xs k ≡ some x)). others k x t.0 t.1)
      (at_set xs i k a x e)

  -- two items changed
  pub two_set : (Holds : ℕ → A → Type 0) (xs : List A) (i j : ℕ) (a b : A) → Holds i a → Holds j b → ((k : ℕ) (x : A) → k ≢ i → k ≢ j → get_elem? xs k ≡ some x → Holds k x) → (k : ℕ) (x : A) → get_elem? (set (set xs i a) j b) k ≡ some x → Holds k x
  two_set Holds xs i j a b first second others =
      one_set Holds (set xs i a) j b second (λ k x other e. one_set (λ l y. l ≢ j → Holds l y) xs i a (λ _. first) (λ l y ne at no. others l y ne no at) k x e other)

  -- a new item came at the end
  pub new_last : (Holds : ℕ → A → Type 0) (xs : List A) (b : A) → ((k : ℕ) (x : A) → get_elem? xs k ≡ some x → Holds k x) → Holds (length xs) b → (k : ℕ) (x : A) → get_elem? (xs ++ b ∷ []) k ≡ some x → Holds k x
  new_last Holds xs b old new k x e = ⊎_elim
      (λ (there : get_elem? xs k ≡ some x). old k x there)
      (λ (t : (k ≡ length xs) × (b ≡ x)). subst (λ (z : ℕ × A). Holds z.0 z.1) (λ c. (sym t.0 c, t.1 c)) new)
      (at_end xs b x k e)

  -- one item changed, and a new one came at the end
  pub set_more : (Holds : ℕ → A → Type 0) (xs : List A) (i : ℕ) (a b : A) → Holds i a → Holds (length (set xs i a)) b → ((k : ℕ) (x : A) → k ≢ i → get_elem? xs k ≡ some x → Holds k x) → (k : ℕ) (x : A) → get_elem? (set xs i a ++ b ∷ []) k ≡ some x → Holds k x
  set_more Holds xs i a b here new others = new_last Holds (set xs i a) b (one_set Holds xs i a here others) new

  -- what another item than the changed one was before
  pub was_there : (xs : List A) (i j : ℕ) (a x : A) → j ≢ i → get_elem? (set xs i a) j ≡ some x → get_elem? xs j ≡ some x
  was_there xs i j a x ne e = ⊎_elim (λ (t : (j ≡ i) × (a ≡ x)). absurd (ne t.0)) (λ (t : (j ≢ i) × (get_elem? xs j ≡ some x)). t.1) (at_set xs i j a x e)
