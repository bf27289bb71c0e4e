-- A map that finds the spot of each number's element does so after each call, where it is updated.
use Rattle.std.proofs.Common.{◌≡◌, ℕ, true, false, ◌∷◌, ◌++◌, cond, Option, Some, None, eqb, refl, sym, ap, ◌∙◌, subst, ◌⊎◌, inl, inr}
use Rattle.std.proofs.lemmas.Bool.{eqb-true, eqb-false}
use Rattle.std.proofs.lemmas.Map.{update_here}
use denote.RawPtr.{Ptr}
use Rattle.cordyceps_base.specs.BySpot.{HasSpot, IsTaken, IsMovedFront}
use Rattle.cordyceps_base.specs.Element.{Element}
use Rattle.cordyceps_base.specs.Nodes.{Nodes, spots, with_item}
use Rattle.cordyceps_base.specs.Spots.{AreDistinct}
use Rattle.cordyceps_base.proofs.Places.{spots-with_item}
use Rattle.cordyceps_stable.specs.Agreeing.{HasElementAt, Agrees, IsUpdated}
use Rattle.cordyceps_stable.proofs.Holding.{spot_is_at, taken_is_at, unique, taken_gone, left_is_at, taken_or_left, first_taken, moved_is_at, written_lies, written_lay}

abbrev spot_or : Ptr → Option Ptr → Ptr
spot_or q None = q
spot_or q (Some p) = p

pub none_some : (o : Option Ptr) (p : Ptr) → o ≡ None → o ≡ Some p → ⊥
none_some o p none some = let no : None ≡ Some p = sym none ∙ some in cc

-- what an updated map has at a number
either_way : (f g : ℕ → Option Ptr) (k : ℕ) (w : Option Ptr) → IsUpdated f k w g → (q : ℕ) → ((q ≡ k) × (g q ≡ w)) ⊎ ((q ≡ k → ⊥) × (g q ≡ f q))
either_way f g k w up q = (elim (eqb k q) as (λ b. eqb k q ≡ b → g q ≡ cond b w (f q) → ((q ≡ k) × (g q ≡ w)) ⊎ ((q ≡ k → ⊥) × (g q ≡ f q))) [
  | true ↦ λ same at. inl (sym (eqb-true k q same), at)
  | false ↦ λ other at. inr ((λ is. eqb-false k q other (sym is)), at)
]) refl (up q)

module _ {X : Type 0} where
  -- the map's answer may be handed to `remove`
  pub answer_spot : (f : ℕ → Option Ptr) (c : Nodes X) → Agrees f c → (k : ℕ) (p : Ptr) → f k ≡ Some p → HasSpot c p
  answer_spot f c g k p e = let (x, _, lies) = g.mapped k p e in spot_is_at c p x lies

  -- what `remove` answers at the map's spot for k is the element with the number k
  pub removes_key : (f : ℕ → Option Ptr) (c : Nodes X) → Agrees f c → (k : ℕ) (p : Ptr) → f k ≡ Some p → (e : Element X) (d : Nodes X) → IsTaken c p e d → e.id ≡ k
  removes_key f c g k p at e d (b, a, is, _) =
      let (x, key, (b', a', is')) = g.mapped k p at in
      let same = unique b a b' a' p e x (sym is ∙ is') (subst (λ s. AreDistinct (spots s)) is g.distinct) in
      ap (λ (y : Element X). y.id) same.1 ∙ key

  -- elements of one number lie at one spot
  pub keys_differ : (f : ℕ → Option Ptr) (c : Nodes X) → Agrees f c → (q r : Ptr) (e o : Element X) → HasElementAt c q e → HasElementAt c r o → e.id ≡ o.id → q ≡ r
  keys_differ f c g q r e o l m same = let one = g.listed q e l in let two = g.listed r o m in ap (spot_or q) (sym one ∙ ap f same ∙ two)

  -- an element was put in, of a number that the map did not know: `first_taken` and its like tell which
  pub put_agrees : (f g : ℕ → Option Ptr) (c d : Nodes X) (p : Ptr) (e : Element X) → Agrees f c → f e.id ≡ None → IsUpdated f e.id (Some p) g → IsTaken d p e c → AreDistinct (spots d) → Agrees g d
  put_agrees f g c d p e was fresh up t distinct = record { mapped = mapped; listed = listed; distinct = distinct } where
    mapped : (k : ℕ) (q : Ptr) → g k ≡ Some q → (o : Element X) × (o.id ≡ k) × HasElementAt d q o
    mapped k q at = elim (either_way f g e.id (Some p) up k) as (λ _. (o : Element X) × (o.id ≡ k) × HasElementAt d q o) [
      | inl here ↦ let same : p ≡ q = ap (spot_or p) (sym here.1 ∙ at) in let (before, after, is, _) = t in (e, sym here.0, (before, after, is ∙ ap (λ s. before ++ (s, e) ∷ after) same))
      | inr other ↦ let (o, key, lies) = was.mapped k q (sym other.1 ∙ at) in (o, key, left_is_at d c p q e o t lies)
    ]

    listed : (q : Ptr) (o : Element X) → HasElementAt d q o → g o.id ≡ Some q
    listed q o lies = elim (taken_or_left d c p q e o t lies) as (λ _. g o.id ≡ Some q) [
      | inl same ↦ ap (λ (x : Element X). g x.id) same.1 ∙ up e.id ∙ update_here f e.id (Some p) ∙ ap Some (sym same.0)
      | inr on ↦ let known = was.listed q o on in elim (either_way f g e.id (Some p) up o.id) as (λ _. g o.id ≡ Some q) [
        | inl here ↦ absurd (none_some (f e.id) q fresh (ap f (sym here.0) ∙ known))
        | inr other ↦ other.1 ∙ known
      ]
    ]

  -- an element was taken out
  pub taken_agrees : (f g : ℕ → Option Ptr) (c d : Nodes X) (p : Ptr) (e : Element X) → Agrees f c → IsUpdated f e.id None g → IsTaken c p e d → AreDistinct (spots d) → Agrees g d
  taken_agrees f g c d p e was up t distinct = record { mapped = mapped; listed = listed; distinct = distinct } where
    mapped : (k : ℕ) (q : Ptr) → g k ≡ Some q → (o : Element X) × (o.id ≡ k) × HasElementAt d q o
    mapped k q at = elim (either_way f g e.id None up k) as (λ _. (o : Element X) × (o.id ≡ k) × HasElementAt d q o) [
      | inl here ↦ absurd (none_some (g k) q here.1 at)
      | inr other ↦ let (o, key, lies) = was.mapped k q (sym other.1 ∙ at) in elim (taken_or_left c d p q e o t lies) as (λ _. (x : Element X) × (x.id ≡ k) × HasElementAt d q x) [
        | inl same ↦ absurd (other.0 (sym key ∙ ap (λ (x : Element X). x.id) same.1))
        | inr on ↦ (o, key, on)
      ]
    ]

    listed : (q : Ptr) (o : Element X) → HasElementAt d q o → g o.id ≡ Some q
    listed q o lies = let before = left_is_at c d p q e o t lies in elim (either_way f g e.id None up o.id) as (λ _. g o.id ≡ Some q) [
      | inl here ↦
          let same : q ≡ p = keys_differ f c was q p o e before (taken_is_at c d p e t) here.0 in
          absurd (taken_gone c d p e was.distinct t (spot_is_at d p o (subst (λ s. HasElementAt d s o) same lies)))
      | inr other ↦ other.1 ∙ was.listed q o before
    ]

  -- `remove` at the map's spot for k
  pub removed_agrees : (f g : ℕ → Option Ptr) (c d : Nodes X) (k : ℕ) (p : Ptr) (e : Element X) → Agrees f c → f k ≡ Some p → IsUpdated f k None g → IsTaken c p e d → AreDistinct (spots d) → Agrees g d
  removed_agrees f g c d k p e was at up t distinct = taken_agrees f g c d p e was (subst (λ n. IsUpdated f n None g) (sym (removes_key f c was k p at e d t)) up) t distinct

  -- an element was moved: the two lists are the same without it
  kept_agrees : (f : ℕ → Option Ptr) (c d rest : Nodes X) (p : Ptr) (e : Element X) → Agrees f c → IsTaken c p e rest → IsTaken d p e rest → AreDistinct (spots d) → Agrees f d
  kept_agrees f c d rest p e was from to distinct =
      record {
        mapped = λ k q at. let (o, key, lies) = was.mapped k q at in (o, key, moved_is_at c d rest p q e o from to lies);
        listed = λ q o lies. was.listed q o (moved_is_at d c rest p q e o to from lies);
        distinct = distinct;
      }

  pub moved_front_agrees : (f : ℕ → Option Ptr) (c d : Nodes X) (p : Ptr) → Agrees f c → IsMovedFront c p d → AreDistinct (spots d) → Agrees f d
  moved_front_agrees f c d p was (e, rest, t, is) distinct = kept_agrees f c d rest p e was t (first_taken d rest p e is) distinct

  -- a value was written, as through `get_mut`
  pub written_agrees : (f : ℕ → Option Ptr) (c : Nodes X) (k : ℕ) (w : X) → Agrees f c → Agrees f (with_item c k w)
  written_agrees f c k w was =
      record {
        mapped = λ n q at. let (e, key, lies) = was.mapped n q at in let (o, same, on) = written_lies c k w q e lies in (o, same ∙ key, on);
        listed = λ q o lies. let (e, same, on) = written_lay c k w q o lies in ap f (sym same) ∙ was.listed q e on;
        distinct = subst AreDistinct (sym (spots-with_item c k w)) was.distinct;
      }
