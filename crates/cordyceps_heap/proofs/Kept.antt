-- Which spots a heap has, and how it agrees with a map of spots, by what its calls say.
use Rattle.std.proofs.Common.{◌≡◌, ℕ, [], ◌∷◌, ◌++◌, Option, Some, None, MatchOption, refl, sym, ap, ◌∙◌, subst, ◌⊎◌, inl, inr}
use Rattle.std.proofs.lemmas.List.Sorted.{IsPermutation-append_comm, IsPermutation-sym, IsPermutation-trans}
use Rattle.std.specs.List.Sorted.{IsPermutation}
use Rattle.std.specs.Prelude.{IfSome}
use denote.RawPtr.{Ptr}
use Rattle.cordyceps_base.specs.BySpot.{HasSpot, IsTaken}
use Rattle.cordyceps_base.specs.Element.{Element}
use Rattle.cordyceps_base.specs.Nodes.{Nodes, spots}
use Rattle.cordyceps_base.specs.Spots.{AreDistinct}
use Rattle.cordyceps_stable.specs.Agreeing.{HasElementAt, Agrees, IsUpdated}
use Rattle.cordyceps_stable.proofs.Agreeing.{none_some, put_agrees, taken_agrees}
use Rattle.cordyceps_heap.proofs.Apart.{permuted_distinct}
use Rattle.cordyceps_stable.proofs.Valid.{permuted_is_at}
use Rattle.cordyceps_stable.proofs.Holding.{distinct_less, has_split, last_taken, spot_is_at, taken_is_at, left_is_at, taken_or_left, taken_gone, joined_is_at, front_is_at}

module _ {X : Type 0} where
  pub permuted_has : (c d : Nodes X) (q : Ptr) → IsPermutation c d → HasSpot c q → HasSpot d q
  permuted_has c d q p (k, at) = let (e, lies) = has_split c k q at in spot_is_at d q e (permuted_is_at c d q e p lies)

  -- what `push` returns, and spots from before
  pub pushed_has : (c d : Nodes X) (p : Ptr) (e : Element X) → IsPermutation (c ++ (p, e) ∷ []) d → HasSpot d p
  pushed_has c d p e kept = spot_is_at d p e (permuted_is_at (c ++ (p, e) ∷ []) d p e kept (c, [], refl))

  pub joined_keeps : (c more d : Nodes X) (q : Ptr) → IsPermutation (c ++ more) d → HasSpot c q → HasSpot d q
  joined_keeps c more d q kept (k, at) = let (e, lies) = has_split c k q at in spot_is_at d q e (permuted_is_at (c ++ more) d q e kept (front_is_at c more q e lies))

  pub pushed_new : (c d : Nodes X) (p : Ptr) (e : Element X) → IsPermutation (c ++ (p, e) ∷ []) d → AreDistinct (spots d) → HasSpot c p → ⊥
  pushed_new c d p e kept distinct has =
      let all : Nodes X = c ++ (p, e) ∷ [] in
      let apart = permuted_distinct d all (IsPermutation-sym all d kept) distinct in
      taken_gone all c p e apart (last_taken all c p e refl) has

  -- the spots of a heap whose elements were moved into another
  pub taken_over : (c more d : Nodes X) (q : Ptr) → IsPermutation (c ++ more) d → HasSpot more q → HasSpot d q
  taken_over c more d q kept has =
      joined_keeps more c d q (IsPermutation-trans (more ++ c) (c ++ more) d (IsPermutation-append_comm more c) kept) has

  -- spots from before an `update`
  pub changed_keeps : (c d rest : Nodes X) (p q : Ptr) (e o : Element X) → IsTaken c p e rest → IsPermutation (rest ++ (p, o) ∷ []) d → HasSpot c q → HasSpot d q
  changed_keeps c d rest p q e o taken kept (k, at) =
      let (x, lies) = has_split c k q at in
      elim (taken_or_left c rest p q e x taken lies) as (λ _. HasSpot d q) [
        | inl same ↦ subst (HasSpot d) (sym same.0) (pushed_has rest d p o kept)
        | inr on ↦ joined_keeps rest ((p, o) ∷ []) d q kept (spot_is_at rest q x on)
      ]

  -- what `front` returns
  pub front_has : (c : Nodes X) (o : Option Ptr) (N : Type 0) (P : Ptr → Element X → Type 0) → MatchOption o N (λ p. (e : Element X) × HasElementAt c p e × P p e) → IfSome o (λ p. HasSpot c p)
  front_has c None N P h = tt
  front_has c (Some p) N P (e, lies, rest) = spot_is_at c p e lies

  -- what `pop_front` removes
  pub popped_is_at : (c d : Nodes X) (p : Ptr) (e : Element X) → IsPermutation c ((p, e) ∷ d) → HasElementAt c p e
  popped_is_at c d p e kept = permuted_is_at ((p, e) ∷ d) c p e (IsPermutation-sym c ((p, e) ∷ d) kept) ([], d, refl)

  pub popped_keeps : (c d : Nodes X) (p q : Ptr) (e : Element X) → IsPermutation c ((p, e) ∷ d) → HasSpot c q → HasSpot d q ⊎ HasElementAt c q e
  popped_keeps c d p q e kept (k, at) =
      let (o, lies) = has_split c k q at in
      elim (taken_or_left ((p, e) ∷ d) d p q e o ([], d, refl, refl) (permuted_is_at c ((p, e) ∷ d) q o kept lies)) as (λ _. HasSpot d q ⊎ HasElementAt c q e) [
        | inl same ↦ inr (subst (HasElementAt c q) same.1 lies)
        | inr left ↦ inl (spot_is_at d q o left)
      ]

  only_at : (n : Ptr × Element X) (q : Ptr) (o : Element X) → HasElementAt (n ∷ []) q o → (q, o) ≡ n
  only_at n q o ([], a, is) = let first : n ≡ (q, o) = cc in sym first
  only_at n q o (y ∷ [], a, is) = absurd cc
  only_at n q o (y ∷ z ∷ b, a, is) = absurd cc

  -- the same elements are there, in another order
  pub permuted_agrees : (f : ℕ → Option Ptr) (c d : Nodes X) → Agrees f c → IsPermutation c d → Agrees f d
  permuted_agrees f c d was kept = record {
    mapped = λ k q at. let (o, key, lies) = was.mapped k q at in (o, key, permuted_is_at c d q o kept lies);
    listed = λ q o lies. was.listed q o (permuted_is_at d c q o (IsPermutation-sym c d kept) lies);
    distinct = permuted_distinct c d kept was.distinct;
  }

  -- the first was removed by `pop_front`
  pub popped_agrees : (f g : ℕ → Option Ptr) (c d : Nodes X) (p : Ptr) (e : Element X) → Agrees f c → IsUpdated f e.id None g → IsPermutation c ((p, e) ∷ d) → Agrees g d
  popped_agrees f g c d p e was up kept =
      let whole = permuted_agrees f c ((p, e) ∷ d) was kept in taken_agrees f g ((p, e) ∷ d) d p e whole up ([], d, refl, refl) whole.distinct.1

  -- an element was pushed, of a number that the map did not know
  pub pushed_agrees : (f g : ℕ → Option Ptr) (c d : Nodes X) (p : Ptr) (e : Element X) → Agrees f c → f e.id ≡ None → IsUpdated f e.id (Some p) g → IsPermutation (c ++ (p, e) ∷ []) d → AreDistinct (spots d) → Agrees g d
  pushed_agrees f g c d p e was fresh up kept distinct =
      let n : Ptr × Element X = (p, e) in let (b, a, is) = permuted_is_at (c ++ n ∷ []) d p e kept (c, [], refl) in
      let rest : Nodes X = b ++ a in let taken : IsTaken d p e rest = (b, a, is, refl) in
      put_agrees f g rest d p e (record {
        mapped = λ k q at. let (o, key, lies) = was.mapped k q at in (
          o,
          key,
          elim (taken_or_left d rest p q e o taken (permuted_is_at (c ++ n ∷ []) d q o kept (front_is_at c (n ∷ []) q o lies))) as (λ _. HasElementAt rest q o) [
            | inl same ↦ absurd (none_some (f e.id) q fresh (ap f (sym (ap (λ (x : Element X). x.id) same.1) ∙ key) ∙ at))
            | inr on ↦ on
          ],
        );
        listed = λ q o lies. elim (joined_is_at c (n ∷ []) q o (permuted_is_at d (c ++ n ∷ []) q o (IsPermutation-sym (c ++ n ∷ []) d kept) (left_is_at d rest p q e o taken lies))) as (λ _. f o.id ≡ Some q) [
          | inl on ↦ was.listed q o on
          | inr on ↦ absurd (taken_gone d rest p e distinct taken (spot_is_at rest p o (subst (λ s. HasElementAt rest s o) (ap (λ (x : Ptr × Element X). x.0) (only_at n q o on)) lies)))
        ];
        distinct = distinct_less b a n (subst (λ s. AreDistinct (spots s)) is distinct);
      }) fresh up taken distinct

  -- an element was changed by `update`
  pub updated_agrees : (f : ℕ → Option Ptr) (c d rest : Nodes X) (p : Ptr) (e o : Element X) → Agrees f c → IsTaken c p e rest → o.id ≡ e.id → IsPermutation (rest ++ (p, o) ∷ []) d → AreDistinct (spots d) → Agrees f d
  updated_agrees f c d rest p e o was taken same kept distinct =
      let n : Ptr × Element X = (p, o) in
      record {
        mapped = λ k q at. let (x, key, lies) = was.mapped k q at in elim (taken_or_left c rest p q e x taken lies) as (λ _. (y : Element X) × (y.id ≡ k) × HasElementAt d q y) [
          | inl is ↦ (o, same ∙ sym (ap (λ (y : Element X). y.id) is.1) ∙ key, subst (λ s. HasElementAt d s o) (sym is.0) (permuted_is_at (rest ++ n ∷ []) d p o kept (rest, [], refl)))
          | inr on ↦ (x, key, permuted_is_at (rest ++ n ∷ []) d q x kept (front_is_at rest (n ∷ []) q x on))
        ];
        listed = λ q x lies. elim (joined_is_at rest (n ∷ []) q x (permuted_is_at d (rest ++ n ∷ []) q x (IsPermutation-sym (rest ++ n ∷ []) d kept) lies)) as (λ _. f x.id ≡ Some q) [
          | inl on ↦ was.listed q x (left_is_at c rest p q e x taken on)
          | inr on ↦ let is = only_at n q x on in ap (λ (y : Ptr × Element X). f y.1.id) is ∙ ap f same ∙ was.listed p e (taken_is_at c rest p e taken) ∙ ap (λ (y : Ptr × Element X). Some y.0) (sym is)
        ];
        distinct = distinct;
      }
