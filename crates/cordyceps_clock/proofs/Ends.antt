-- Where the bucket of a node ends, once the node is taken out: by the node after it and the one before it.
use Rattle.std.proofs.Common.{◌≡◌, ℕ, ◌<◌, ◌≤◌, Bool, true, false, List, [], ◌∷◌, ◌++◌, length, get_or, slice_set, Option, Some, None, MatchOption, refl, sym, ap, ◌∙◌, subst, arith}
use Rattle.std.specs.Prelude.{◌==◌}
use Rattle.std.proofs.lemmas.Bool.{eqb-true, eqb-false}
use Rattle.std.proofs.lemmas.List.{append_assoc, append-nil, get_or-set_same, get_or-set_other}
use denote.RawPtr.{Ptr}
use Rattle.cordyceps_base.specs.BySpot.{HoldsAt, IsTaken, IsFirst, IsLast, AreNext}
use Rattle.cordyceps_base.specs.Element.{Element}
use Rattle.cordyceps_base.specs.Nodes.{Nodes, spots}
use Rattle.cordyceps_base.specs.Spots.{AreDistinct}
use Rattle.cordyceps_single.specs.ByKey.{AscendsBy}
use Rattle.std.specs.List.{AllByRecursion}
use Rattle.cordyceps_stable.proofs.Classes.{all_weaker, all_append, all_back}
use Rattle.cordyceps_stable.proofs.Holding.{unique}
use Rattle.cordyceps_clock.specs.Buckets.{bucket_of, last_spot, number_at, row, IsKept}
use Rattle.cordyceps_clock.proofs.Rows.{kept_taken, end_is, end_stays, none_after, row_above, row_ended, row_two, upto_it}

module _ {X : Type 0} (of : X → ℕ) (clock k : ℕ) where
  abbrev N : Ptr × Element X → ℕ
  N = number_at of clock

  -- whether the node at a spot, if there is one, is in the bucket
  abbrev pub Says : Nodes X → Option Ptr → Bool → Type 0
  Says c o b = MatchOption o (b ≡ false) (λ p. (v : X) × HoldsAt c p v × (b ≡ (bucket_of clock (of v) == k)))

  pub value_is : (c b a : Nodes X) (q : Ptr) (o : Element X) (v : X) → AreDistinct (spots c) → c ≡ b ++ (q, o) ∷ a → HoldsAt c q v → v ≡ o.value
  value_is c b a q o v distinct is (before, id, after, at) =
      let same = unique b a before after q o (record { id = id; value = v }) (sym is ∙ at) (subst (λ l. AreDistinct (spots l)) is distinct) in
      ap (λ (x : Element X). x.value) (sym same.1)

  said_in : (c b a : Nodes X) (q : Ptr) (o : Element X) (v : X) (t : Bool) → AreDistinct (spots c) → c ≡ b ++ (q, o) ∷ a → HoldsAt c q v → t ≡ (bucket_of clock (of v) == k) → t ≡ true → bucket_of clock (of o.value) ≡ k
  said_in c b a q o v t distinct is holds tells t_is =
      ap (λ w. bucket_of clock (of w)) (sym (value_is c b a q o v distinct is holds)) ∙ eqb-true (bucket_of clock (of v)) k (sym tells ∙ t_is)

  said_out : (c b a : Nodes X) (q : Ptr) (o : Element X) (v : X) (t : Bool) → AreDistinct (spots c) → c ≡ b ++ (q, o) ∷ a → HoldsAt c q v → t ≡ (bucket_of clock (of v) == k) → t ≡ false → bucket_of clock (of o.value) ≡ k → ⊥
  said_out c b a q o v t distinct is holds tells f_is same =
      eqb-false (bucket_of clock (of v)) k (sym tells ∙ f_is) (ap (λ w. bucket_of clock (of w)) (value_is c b a q o v distinct is holds) ∙ same)

  -- the bucket of what a spot holds is that of the node
  pub held_is : (c b a : Nodes X) (q : Ptr) (o : Element X) (v : X) (time : ℕ) → AreDistinct (spots c) → c ≡ b ++ (q, o) ∷ a → HoldsAt c q v → time ≡ of v → k ≡ bucket_of clock time → bucket_of clock (of o.value) ≡ k
  held_is c b a q o v time distinct is holds due at =
      ap (λ w. bucket_of clock (of w)) (sym (value_is c b a q o v distinct is holds)) ∙ ap (bucket_of clock) (sym due) ∙ sym at

  parts_at : (c front back before after : Nodes X) (p : Ptr) (e x : Element X) → AreDistinct (spots c) → c ≡ front ++ (p, e) ∷ back → c ≡ before ++ (p, x) ∷ after → (front ≡ before) × (e ≡ x) × (back ≡ after)
  parts_at c front back before after p e x distinct is at = unique front back before after p e x (sym is ∙ at) (subst (λ l. AreDistinct (spots l)) is distinct)

  pub left_stays : (ends : List (Option Ptr)) (c rest : Nodes X) (p : Ptr) (e : Element X) (next : Option Ptr) (t : Bool) → k < 65 → AreDistinct (spots c) → IsKept N ends c → IsTaken c p e rest → bucket_of clock (of e.value) ≡ k
      → MatchOption next (IsLast c p) (λ q. AreNext c p q) → Says c next t → t ≡ true → get_or ends k None ≡ last_spot (row N k rest)
  left_stays ends c rest p e None t small distinct kept taken numbered on says t_is = let nope : true ≡ false = sym t_is ∙ says in cc
  left_stays ends c rest p e (Some q) t small distinct kept (front, back, is, left) numbered (f, x, o, z, at) (v, holds, tells) t_is =
      let (before, own, later) = parts_at c front back f ((q, o) ∷ z) p e x distinct is at in
      let inside = said_in c (f ++ (p, x) ∷ []) z q o v t distinct (at ∙ sym (append_assoc f ((p, x) ∷ []) ((q, o) ∷ z))) holds tells t_is in
      end_stays N ends front z (p, e) (q, o) k small numbered inside (subst (IsKept N ends) (is ∙ ap (λ l. front ++ (p, e) ∷ l) later) kept)
      ∙ ap (λ l. last_spot (row N k l)) (sym (left ∙ ap (λ l. front ++ l) later))

  -- no node after it is in the bucket
  none_left : (ends : List (Option Ptr)) (c front back : Nodes X) (p : Ptr) (e : Element X) (next : Option Ptr) (t : Bool) → AreDistinct (spots c) → IsKept N ends c → c ≡ front ++ (p, e) ∷ back → bucket_of clock (of e.value) ≡ k
      → MatchOption next (IsLast c p) (λ q. AreNext c p q) → Says c next t → t ≡ false → row N k back ≡ []
  none_left ends c front back p e None t distinct kept is numbered (f, x, at) says f_is =
      let (before, own, later) = parts_at c front back f [] p e x distinct is at in ap (row N k) later
  none_left ends c front back p e (Some q) t distinct kept is numbered (f, x, o, z, at) (v, holds, tells) f_is =
      let (before, own, later) = parts_at c front back f ((q, o) ∷ z) p e x distinct is at in
      let outside = said_out c (f ++ (p, x) ∷ []) z q o v t distinct (at ∙ sym (append_assoc f ((p, x) ∷ []) ((q, o) ∷ z))) holds tells f_is in
      ap (row N k) later ∙ none_after N front z (p, e) (q, o) k numbered outside (subst (AscendsBy N) (is ∙ ap (λ l. front ++ (p, e) ∷ l) later) kept.ascends)

  -- the node before it is the last of the bucket, or there is none
  before_it : (ends : List (Option Ptr)) (c front back : Nodes X) (p : Ptr) (e : Element X) (prev : Option Ptr) (t : Bool) → AreDistinct (spots c) → IsKept N ends c → c ≡ front ++ (p, e) ∷ back → bucket_of clock (of e.value) ≡ k
      → MatchOption prev (IsFirst c p) (λ q. AreNext c q p) → Says c prev t → (t ≡ true → prev ≡ last_spot (row N k front)) × (t ≡ false → None ≡ last_spot (row N k front))
  before_it ends c front back p e None t distinct kept is numbered (x, after, at) says =
      let none = ap (λ l. last_spot (row N k l)) (parts_at c front back [] after p e x distinct is at).0 in
      ((λ t_is. let nope : true ≡ false = sym t_is ∙ says in cc), (λ f_is. sym none))
  before_it ends c front back p e (Some q) t distinct kept is numbered (f, o, x, z, at) (v, holds, tells) =
      let on : c ≡ (f ++ (q, o) ∷ []) ++ (p, x) ∷ z = at ∙ sym (append_assoc f ((q, o) ∷ []) ((p, x) ∷ z)) in
      let same : front ≡ f ++ (q, o) ∷ [] = (parts_at c front back (f ++ (q, o) ∷ []) z p e x distinct is on).0 in
      let shown = ap (λ l. last_spot (row N k l)) same in
      let ascends : AscendsBy N (f ++ (q, o) ∷ (p, x) ∷ z) = subst (AscendsBy N) at kept.ascends in
      let itself : e ≡ x = (parts_at c front back (f ++ (q, o) ∷ []) z p e x distinct is on).1 in (
        (λ t_is.
            let inside = said_in c f ((p, x) ∷ z) q o v t distinct at holds tells t_is in
            sym (shown ∙ ap last_spot (row_ended N k f [] (q, o) inside refl) ∙ end_is N (row N k f) (q, o))),
        (λ f_is.
            let outside = said_out c f ((p, x) ∷ z) q o v t distinct at holds tells f_is in
            let upto = upto_it N (f ++ (q, o) ∷ []) z (p, x) (subst (AscendsBy N) on kept.ascends) in
            let below = upto_it N f ((p, x) ∷ z) (q, o) ascends in
            sym (shown ∙ ap last_spot (row_above N k (f ++ (q, o) ∷ []) (low f o x upto below (ap (λ (w : Element X). bucket_of clock (of w.value)) (sym itself) ∙ numbered) outside)))),
      ) where
        low : (f : Nodes X) (o x : Element X) → AllByRecursion (λ y. N y ≤ bucket_of clock (of x.value)) (f ++ (q, o) ∷ []) → AllByRecursion (λ y. N y ≤ bucket_of clock (of o.value)) f → bucket_of clock (of x.value) ≡ k → (bucket_of clock (of o.value) ≡ k → ⊥) → AllByRecursion (λ y. N y < k) (f ++ (q, o) ∷ [])
        low f o x upto below is_k other =
            let last = all_back (λ y. N y ≤ bucket_of clock (of x.value)) f ((q, o) ∷ []) upto in
            let less : bucket_of clock (of o.value) < k = omega (arith, last.0, is_k, other) in
            all_append (λ y. N y < k) f ((q, o) ∷ []) (all_weaker (λ y. N y ≤ bucket_of clock (of o.value)) (λ y. N y < k) (λ y m. omega (arith, m, less)) f below) (less, tt)

  pub left_ended : (ends : List (Option Ptr)) (c rest : Nodes X) (p : Ptr) (e : Element X) (next prev : Option Ptr) (t s : Bool) → AreDistinct (spots c) → IsKept N ends c → IsTaken c p e rest → bucket_of clock (of e.value) ≡ k
      → MatchOption next (IsLast c p) (λ q. AreNext c p q) → Says c next t → t ≡ false → MatchOption prev (IsFirst c p) (λ q. AreNext c q p) → Says c prev s
      → (s ≡ true → prev ≡ last_spot (row N k rest)) × (s ≡ false → None ≡ last_spot (row N k rest))
  left_ended ends c rest p e next prev t s distinct kept (front, back, is, left) numbered on says f_is back_on tells =
      let end = before_it ends c front back p e prev s distinct kept is numbered back_on tells in
      let only : row N k rest ≡ row N k front =
      ap (row N k) left ∙ row_two N k front back ∙ ap (λ l. row N k front ++ l) (none_left ends c front back p e next t distinct kept is numbered on says f_is) ∙ append-nil (row N k front) in
      ((λ t_is. end.0 t_is ∙ ap last_spot (sym only)), (λ not. end.1 not ∙ ap last_spot (sym only)))

  -- the others are kept, once the end that their bucket has was written
  pub left_kept : (ends : List (Option Ptr)) (c rest : Nodes X) (p : Ptr) (e : Element X) (end : Option Ptr) → length ends ≡ 65 → k < 65 → IsKept N ends c → IsTaken c p e rest → bucket_of clock (of e.value) ≡ k → end ≡ last_spot (row N k rest) → IsKept N (slice_set ends k end) rest
  left_kept ends c rest p e end long small kept (low, high, was, left) numbered is =
      subst (IsKept N (slice_set ends k end)) (sym left)
      (kept_taken N ends (slice_set ends k end) low high (p, e) k numbered
      (get_or-set_same ends k end None (omega (arith, small, long)) ∙ is ∙ ap (λ l. last_spot (row N k l)) left)
      (λ i other. get_or-set_other ends k i end None other)
      (subst (IsKept N ends) was kept))
