-- Which spots a list has, by what its calls say.
use Rattle.std.proofs.Common.{append_assoc, ◌≡◌, [], ◌∷◌, ◌++◌, Option, Some, None, MatchOption, sym, ap, ◌∙◌}
use Rattle.std.specs.Prelude.{IfSome}
use denote.RawPtr.{Ptr}
use Rattle.cordyceps_base.specs.BySpot.{HasSpot, IsTaken, IsPutBefore, IsPutAfter, IsMovedBack, IsFirst, IsLast, AreNext}
use Rattle.cordyceps_base.specs.Nodes.{Nodes}
use Rattle.cordyceps_base.specs.Element.{Element}
use Rattle.cordyceps_stable.specs.Replacing.{IsReplaced}
use Rattle.cordyceps_stable.specs.Walk.{IsOn, IsBack}
use Rattle.cordyceps_stable.proofs.Holding.{spot_is_at, taken_is_at, before_taken, after_taken}

module _ {X : Type 0} where
  pub first_has : (c : Nodes X) (p : Ptr) → IsFirst c p → HasSpot c p
  first_has c p (e, after, is) = spot_is_at c p e ([], after, is)

  pub last_has : (c : Nodes X) (p : Ptr) → IsLast c p → HasSpot c p
  last_has c p (before, e, is) = spot_is_at c p e (before, [], is)

  pub next_has : (c : Nodes X) (p q : Ptr) → AreNext c p q → HasSpot c q
  next_has c p q (b, e, o, a, is) = spot_is_at c q o (b ++ (p, e) ∷ [], a, is ∙ sym (append_assoc b ((p, e) ∷ []) ((q, o) ∷ a)))

  pub prev_has : (c : Nodes X) (p q : Ptr) → AreNext c p q → HasSpot c p
  prev_has c p q (b, e, o, a, is) = spot_is_at c p e (b, (q, o) ∷ a, is)

  -- the first spot of a list whose elements were put after those of another
  pub joined_first : (c d n : Nodes X) (p : Ptr) → n ≡ c ++ d → IsFirst d p → HasSpot n p
  joined_first c d n p joined (e, after, is) = spot_is_at n p e (c, after, joined ∙ ap (λ s. c ++ s) is)

  pub joined_spot : (c d n : Nodes X) (o : Option Ptr) → n ≡ c ++ d → MatchOption o (d ≡ []) (λ p. IsFirst d p) → IfSome o (λ p. HasSpot n p)
  joined_spot c d n None joined h = tt
  joined_spot c d n (Some p) joined h = joined_first c d n p joined h

  -- what `next` and `prev` answer
  pub next_spot : (c : Nodes X) (p : Ptr) (o : Option Ptr) → MatchOption o (IsLast c p) (λ q. AreNext c p q) → IfSome o (λ q. HasSpot c q)
  next_spot c p None h = tt
  next_spot c p (Some q) h = next_has c p q h

  pub prev_spot : (c : Nodes X) (p : Ptr) (o : Option Ptr) → MatchOption o (IsFirst c p) (λ q. AreNext c q p) → IfSome o (λ q. HasSpot c q)
  prev_spot c p None h = tt
  prev_spot c p (Some q) h = prev_has c q p h

  -- where an element was inserted, as what `others` of a sorted list says
  pub taken_has : (c d : Nodes X) (p : Ptr) (e : Element X) → IsTaken c p e d → HasSpot c p
  taken_has c d p e taken = spot_is_at c p e (taken_is_at c d p e taken)

  -- where an element was put in, or moved to
  pub replaced_has : (c d : Nodes X) (p q : Ptr) (o e : Element X) → IsReplaced c p o q e d → HasSpot d q
  replaced_has c d p q o e (before, after, was, is) = spot_is_at d q e (before, after, is)

  pub put_before_has : (c d : Nodes X) (p q : Ptr) (e : Element X) → IsPutBefore c p q e d → HasSpot d q
  put_before_has c d p q e put = taken_has d c q e (before_taken d c p q e put)

  pub put_after_has : (c d : Nodes X) (p q : Ptr) (e : Element X) → IsPutAfter c p q e d → HasSpot d q
  put_after_has c d p q e put = taken_has d c q e (after_taken d c p q e put)

  pub moved_back_has : (c d : Nodes X) (p : Ptr) → IsMovedBack c p d → HasSpot d p
  moved_back_has c d p (e, rest, taken, is) = spot_is_at d p e (rest, [], is)

  -- where a cursor comes to
  pub on_has : (c : Nodes X) (o r : Option Ptr) → IsOn c o r → IfSome r (λ q. HasSpot c q)
  on_has c None None h = tt
  on_has c None (Some q) h = first_has c q h
  on_has c (Some p) r h = next_spot c p r h

  pub back_has : (c : Nodes X) (o r : Option Ptr) → IsBack c o r → IfSome r (λ q. HasSpot c q)
  back_has c None None h = tt
  back_has c None (Some q) h = last_has c q h
  back_has c (Some p) r h = prev_spot c p r h
