-- A map that finds elements of a heap or a queue does so after each call, where it is updated.
use Rattle.std.proofs.Common.{◌≡◌, ℕ, true, false, [], ◌∷◌, ◌++◌, cond, Option, Some, None, eqb, refl, sym, ap, ◌∙◌, subst, ◌⊎◌, inl, inr}
use Rattle.std.proofs.lemmas.Bool.{eqb-true, eqb-false}
use Rattle.std.specs.List.Sorted.{IsPermutation}
use Rattle.std.proofs.lemmas.List.Sorted.{IsPermutation-sym}
use denote.RawPtr.{Ptr}
use Rattle.cordyceps_base.specs.BySpot.{HasSpot, IsTaken}
use Rattle.cordyceps_base.specs.Element.{Element}
use Rattle.cordyceps_base.specs.Nodes.{Nodes}
use Rattle.cordyceps_stable.specs.Agreeing.{HasElementAt, IsUpdated}
use Rattle.cordyceps_stable.proofs.Holding.{spot_is_at, taken_or_left, left_is_at, front_is_at}
use Rattle.cordyceps_stable.proofs.Valid.{permuted_is_at}
use Rattle.test_stable_lists.specs.Finding.{Finds}

some_none : (p : Ptr) → None ≡ Some p → ⊥
some_none p e = cc

abbrev spot_of : Ptr → Option Ptr → Ptr
spot_of q None = q
spot_of q (Some p) = p

-- what an updated map has at a number
either_way : (f g : ℕ → Option Ptr) (k : ℕ) (w : Option Ptr) → IsUpdated f k w g → (q : ℕ) → ((q ≡ k) × (g q ≡ w)) ⊎ ((q ≡ k → ⊥) × (g q ≡ f q))
either_way f g k w up q = (elim (eqb k q) as (λ b. eqb k q ≡ b → g q ≡ cond b w (f q) → ((q ≡ k) × (g q ≡ w)) ⊎ ((q ≡ k → ⊥) × (g q ≡ f q))) [
  | true ↦ λ same at. inl (sym (eqb-true k q same), at)
  | false ↦ λ other at. inr ((λ is. eqb-false k q other (sym is)), at)
]) refl (up q)

module _ {X : Type 0} where
  pub found_there : (f : ℕ → Option Ptr) (c : Nodes X) (k : ℕ) (p : Ptr) → Finds f c → f k ≡ Some p → HasSpot c p
  found_there f c k p was at = let (e, key, lies) = was k p at in spot_is_at c p e lies

  pub finds_joined : (f : ℕ → Option Ptr) (c more d : Nodes X) → Finds f c → IsPermutation (c ++ more) d → Finds f d
  finds_joined f c more d was kept k p at = let (e, key, lies) = was k p at in (e, key, permuted_is_at (c ++ more) d p e kept (front_is_at c more p e lies))

  pub finds_pushed : (f g : ℕ → Option Ptr) (c d : Nodes X) (k : ℕ) (p : Ptr) (e : Element X) → Finds f c → e.id ≡ k → IsUpdated f k (Some p) g → IsPermutation (c ++ (p, e) ∷ []) d → Finds g d
  finds_pushed f g c d k p e was same up kept n q at = elim (either_way f g k (Some p) up n) as (λ _. (o : Element X) × (o.id ≡ n) × HasElementAt d q o) [
    | inl here ↦ let is : p ≡ q = ap (spot_of p) (sym here.1 ∙ at) in (e, same ∙ sym here.0, subst (λ s. HasElementAt d s e) is (permuted_is_at (c ++ (p, e) ∷ []) d p e kept (c, [], refl)))
    | inr other ↦ finds_joined f c ((p, e) ∷ []) d was kept n q (sym other.1 ∙ at)
  ]

  pub finds_taken : (f g : ℕ → Option Ptr) (c d : Nodes X) (p : Ptr) (e : Element X) → Finds f c → IsUpdated f e.id None g → IsTaken c p e d → Finds g d
  finds_taken f g c d p e was up taken n q at = elim (either_way f g e.id None up n) as (λ _. (o : Element X) × (o.id ≡ n) × HasElementAt d q o) [
    | inl here ↦ absurd (some_none q (sym here.1 ∙ at))
    | inr other ↦ let (o, key, lies) = was n q (sym other.1 ∙ at) in (
      o,
      key,
      elim (taken_or_left c d p q e o taken lies) as (λ _. HasElementAt d q o) [
        | inl same ↦ absurd (other.0 (sym key ∙ ap (λ (x : Element X). x.id) same.1))
        | inr on ↦ on
      ],
    )
  ]

  pub finds_changed : (f : ℕ → Option Ptr) (c d rest : Nodes X) (p : Ptr) (e o : Element X) → Finds f c → IsTaken c p e rest → o.id ≡ e.id → IsPermutation (rest ++ (p, o) ∷ []) d → Finds f d
  finds_changed f c d rest p e o was taken same kept n q at = let (x, key, lies) = was n q at in elim (taken_or_left c rest p q e x taken lies) as (λ _. (y : Element X) × (y.id ≡ n) × HasElementAt d q y) [
    | inl is ↦ (o, same ∙ sym (ap (λ (y : Element X). y.id) is.1) ∙ key, subst (λ s. HasElementAt d s o) (sym is.0) (permuted_is_at (rest ++ (p, o) ∷ []) d p o kept (rest, [], refl)))
    | inr on ↦ (x, key, permuted_is_at (rest ++ (p, o) ∷ []) d q x kept (front_is_at rest ((p, o) ∷ []) q x on))
  ]

  pub finds_moved : (f : ℕ → Option Ptr) (c d rest : Nodes X) (p : Ptr) (e o : Element X) → Finds f c
      → IsTaken c p e rest → o.id ≡ e.id → IsTaken d p o rest → Finds f d
  finds_moved f c d rest p e o was taken same (low, high, is, left) n q at =
      let (x, key, lies) = was n q at in
      elim (taken_or_left c rest p q e x taken lies) as (λ _. (y : Element X) × (y.id ≡ n) × HasElementAt d q y) [
        | inl itself ↦ let number = ap (λ (y : Element X). y.id) itself.1 in
            (o, same ∙ sym number ∙ key, subst (λ s. HasElementAt d s o) (sym itself.0) (low, high, is))
        | inr on ↦ (x, key, left_is_at d rest p q o x (low, high, is, left) on)
      ]

  pub finds_put : (f g : ℕ → Option Ptr) (c d : Nodes X) (k : ℕ) (p : Ptr) (e : Element X) → Finds f c → e.id ≡ k → IsUpdated f k (Some p) g → IsTaken d p e c → Finds g d
  finds_put f g c d k p e was same up (low, high, is, left) n q at = elim (either_way f g k (Some p) up n) as (λ _. (o : Element X) × (o.id ≡ n) × HasElementAt d q o) [
    | inl here ↦ let spot : p ≡ q = ap (spot_of p) (sym here.1 ∙ at) in (e, same ∙ sym here.0, subst (λ s. HasElementAt d s e) spot (low, high, is))
    | inr other ↦ let (o, key, lies) = was n q (sym other.1 ∙ at) in (o, key, left_is_at d c p q e o (low, high, is, left) lies)
  ]

  -- where the order of the nodes has no meaning
  pub finds_permuted : (f : ℕ → Option Ptr) (c d : Nodes X) → Finds f c → IsPermutation c d → Finds f d
  finds_permuted f c d was kept k p at = let (e, key, lies) = was k p at in (e, key, permuted_is_at c d p e kept lies)

  pub finds_popped : (f g : ℕ → Option Ptr) (c d : Nodes X) (p : Ptr) (e : Element X) → Finds f c → IsUpdated f e.id None g → IsPermutation ((p, e) ∷ d) c → Finds g d
  finds_popped f g c d p e was up kept =
      finds_taken f g ((p, e) ∷ d) d p e (finds_permuted f c ((p, e) ∷ d) was (IsPermutation-sym ((p, e) ∷ d) c kept)) up ([], d, refl, refl)
