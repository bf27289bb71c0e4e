-- For loops of one's own: where a spot stands among those of a list, and that a walk comes to an end.
use Rattle.std.proofs.Common.{◌≡◌, ℕ, zero, suc, ◌+◌, ◌<◌, Bool, true, false, not, List, [], ◌∷◌, ◌++◌, length, length-append, slice_get, cond, Option, Some, None, MatchOption, ap, sym, ◌∙◌, subst, append_assoc, arith}
use Rattle.std.proofs.lemmas.Bool.{not-false}
use Rattle.std.proofs.lemmas.List.{length-map}
use Rattle.std.specs.Bool.{Decides}
use Rattle.std.specs.Option.{is_some}
use denote.RawPtr.{Ptr}
use Rattle.cordyceps_base.specs.BySpot.{HasSpot, IsFirst, IsLast, AreNext}
use Rattle.cordyceps_base.specs.Element.{Element}
use Rattle.cordyceps_base.specs.Nodes.{Nodes, spots}
use Rattle.cordyceps_base.specs.Spots.{same_ptr, index_of, IsNew, AreDistinct}
use Rattle.cordyceps_base.proofs.DoubleLines.{other_way}
use Rattle.cordyceps_base.proofs.SpotsMemory.{same_ptr_refl}
use Rattle.cordyceps_single.proofs.Preorder.{by_test}
use Rattle.cordyceps_stable.specs.Walk.{nodes_from}
use Rattle.cordyceps_stable.proofs.Reached.{next_has}

at_head : (p q : Ptr) (ps : List Ptr) → same_ptr p q ≡ true → index_of p (q ∷ ps) ≡ 0
at_head p q ps same = ap (λ b. cond b zero (suc (index_of p ps))) same

after_head : (p q : Ptr) (ps : List Ptr) → same_ptr p q ≡ false → index_of p (q ∷ ps) ≡ suc (index_of p ps)
after_head p q ps other = ap (λ b. cond b zero (suc (index_of p ps))) other

below : (ps : List Ptr) (p : Ptr) (k : ℕ) → slice_get ps k ≡ Some p → index_of p ps < length ps
below [] p k at = absurd cc
below (q ∷ ps) p zero at =
    let here : q ≡ p = cc in
    let first = at_head p q ps (subst (λ r. same_ptr p r ≡ true) (sym here) (same_ptr_refl p)) in omega (arith, first)
below (q ∷ ps) p (suc k) at = by_test (same_ptr p q)
    (λ t. let first = at_head p q ps t in omega (arith, first))
    (λ f. let later = after_head p q ps f in let rest = below ps p k at in omega (arith, later, rest))

module _ {X : Type 0} where
  -- the index of a spot is below the length, so the length without the index is a measure
  pub index_below : (c : Nodes X) (p : Ptr) → HasSpot c p → index_of p (spots c) < length c
  index_below c p (k, at) = let low = below (spots c) p k at in let long : length (spots c) ≡ length c = length-map c (λ n. n.0) in omega (arith, low, long)

  -- the first spot has the index 0
  pub first_index : (c : Nodes X) (p : Ptr) → IsFirst c p → index_of p (spots c) ≡ 0
  first_index c p (e, after, is) = ap (λ l. index_of p (spots l)) is ∙ at_head p p (spots after) (same_ptr_refl p)

  differs : (q p : Ptr) (before after : Nodes X) (e : Element X) → IsNew q (spots (before ++ (p, e) ∷ after)) → same_ptr p q ≡ false
  differs q p [] after e new = other_way q p new.0
  differs q p (x ∷ before) after e new = differs q p before after e new.1

  -- where all spots differ, the index of a spot is the number of nodes before it
  pub index_is : (before after : Nodes X) (p : Ptr) (e : Element X) → AreDistinct (spots (before ++ (p, e) ∷ after)) → index_of p (spots (before ++ (p, e) ∷ after)) ≡ length before
  index_is [] after p e distinct = at_head p p (spots after) (same_ptr_refl p)
  index_is (x ∷ before) after p e distinct =
      after_head p x.0 (spots (before ++ (p, e) ∷ after)) (differs x.0 p before after e distinct.0) ∙ ap suc (index_is before after p e distinct.1)

  index_in : (c before after : Nodes X) (p : Ptr) (e : Element X) → AreDistinct (spots c) → c ≡ before ++ (p, e) ∷ after → index_of p (spots c) ≡ length before
  index_in c before after p e distinct is = ap (λ l. index_of p (spots l)) is ∙ index_is before after p e (subst (λ l. AreDistinct (spots l)) is distinct)

  -- the last spot has the index before the length
  pub last_index : (c : Nodes X) (p : Ptr) → AreDistinct (spots c) → IsLast c p → index_of p (spots c) + 1 ≡ length c
  last_index c p distinct (before, e, is) =
      let at = index_in c before [] p e distinct is in omega (arith, at, ap length is, length-append before ((p, e) ∷ []))

  -- `next` raises the index by one, and `prev` lowers it by one
  pub next_index : (c : Nodes X) (p q : Ptr) → AreDistinct (spots c) → AreNext c p q → index_of q (spots c) ≡ index_of p (spots c) + 1
  next_index c p q distinct (before, e, o, after, is) =
      let at = index_in c before ((q, o) ∷ after) p e distinct is in
      let on = index_in c (before ++ (p, e) ∷ []) after q o distinct (is ∙ sym (append_assoc before ((p, e) ∷ []) ((q, o) ∷ after))) in
      omega (arith, at, on, length-append before ((p, e) ∷ []))

  -- a loop that goes on by what `next` answers comes to an end: fewer nodes are left
  pub next_nearer : (c : Nodes X) (p : Ptr) (r : Option Ptr) → AreDistinct (spots c) → HasSpot c p → MatchOption r (IsLast c p) (λ q. AreNext c p q) → nodes_from c r < nodes_from c (Some p)
  next_nearer c p None distinct there h = let low = index_below c p there in omega (arith, low)
  next_nearer c p (Some q) distinct there h = let low = index_below c p there in let on = next_index c p q distinct h in omega (arith, low, on)

  -- a loop that goes back by what `prev` answers comes to an end: the index falls
  pub prev_nearer : (c : Nodes X) (p q : Ptr) → AreDistinct (spots c) → AreNext c q p → index_of q (spots c) < index_of p (spots c)
  prev_nearer c p q distinct h = let on = next_index c q p distinct h in omega (arith, on)

  -- which end is at a spot: the first has none before it, and the last none after it
  pub first_told : {A : Type 0} (at : A → Ptr) (c : Nodes X) (p : Ptr) (o : Option A) (b : Bool) → AreDistinct (spots c) → is_some o ≡ not b → MatchOption o (IsFirst c p) (λ q. AreNext c (at q) p) → Decides b (IsFirst c p)
  first_told at c p None b distinct tells h = (λ _. h, λ _. not-false b (sym tells))
  first_told at c p (Some q) b distinct tells h = (
    λ yes. let no = tells ∙ ap not yes in absurd cc,
    λ first. let low = prev_nearer c p (at q) distinct h in let zeroth = first_index c p first in absurd (omega (arith, low, zeroth)),
  )

  pub last_told : {A : Type 0} (at : A → Ptr) (c : Nodes X) (p : Ptr) (o : Option A) (b : Bool) → AreDistinct (spots c) → is_some o ≡ not b → MatchOption o (IsLast c p) (λ q. AreNext c p (at q)) → Decides b (IsLast c p)
  last_told at c p None b distinct tells h = (λ _. h, λ _. not-false b (sym tells))
  last_told at c p (Some q) b distinct tells h = (
    λ yes. let no = tells ∙ ap not yes in absurd cc,
    λ last. let end = last_index c p distinct last in let on = next_index c p (at q) distinct h in let low = index_below c (at q) (next_has c p (at q) h) in absurd (omega (arith, end, on, low)),
  )
