-- What nodes in order stand for, once one came to its place.
use Rattle.std.proofs.Common.{◌≡◌, Bool, [], ◌∷◌, ◌++◌, refl, sym, ap, ◌∙◌, subst}
use Rattle.std.specs.declared.cmp.Ordering.{Ordering}
use denote.RawPtr.{Ptr}
use Rattle.std.proofs.lemmas.List.{append-nil}
use Rattle.cordyceps_base.specs.BySpot.{IsTaken, IsLast}
use Rattle.cordyceps_base.specs.Element.{Element}
use Rattle.cordyceps_base.specs.Nodes.{Nodes, spots}
use Rattle.cordyceps_base.specs.Spots.{AreDistinct}
use Rattle.cordyceps_single.specs.Preorder.{IsPreorder}
use Rattle.cordyceps_stable.specs.Arranged.{Arranges}
use Rattle.cordyceps_stable.specs.Changing.{ArrivesAnew}
use Rattle.cordyceps_stable.proofs.Arranged.{arranges_put, arranges_taken}
use Rattle.cordyceps_tree.specs.Bounds.{IsPutWhere, SaysAfterEquals}
use Rattle.cordyceps_tree.proofs.Descending.{same_place}
use Rattle.cordyceps_tree.proofs.Bounds.{equals_low, equals_high}

module _ {X : Type 0} where
  pub put_taken : (says : X → Bool → Type 0) (c s d : Nodes X) (p q : Ptr) (e : Element X) → c ≡ s → q ≡ p → IsPutWhere says c p e d → IsTaken d q e s
  put_taken says c s d p q e view at u = (u.front, u.back, u.is ∙ ap (λ z. u.front ++ (z, e) ∷ u.back) (sym at), sym view ∙ u.was)

  module _ (by : (X → X → Ordering) → Type 0) (cmp : X → X → Ordering) (is : by cmp) (o : IsPreorder cmp) where
    pub put_arranges : (c s d a : Nodes X) (p q : Ptr) (e : Element X) → c ≡ s → q ≡ p → IsPutWhere (SaysAfterEquals by e.value) c p e d → Arranges cmp s a → Arranges cmp d (a ++ (q, e) ∷ [])
    put_arranges c s d a p q e view at u h =
        let parts : s ≡ u.front ++ u.back = sym view ∙ u.was in
        let stands = subst (λ l. Arranges cmp l a) parts h in
        let low = equals_low by cmp is e.value u.front u.between.low in
        let high = equals_high by cmp is e.value o u.front u.back u.between.high stands.in_order in
        subst (λ z. Arranges cmp d (a ++ (z, e) ∷ [])) (sym at) (subst (λ l. Arranges cmp l (a ++ (p, e) ∷ [])) (sym u.is) (arranges_put o u.front u.back a (p, e) low high stands))

  -- the value of a node changed, and it came to its place anew
  pub arrives_anew : (by : (X → X → Ordering) → Type 0) → ((cmp : X → X → Ordering) → by cmp → IsPreorder cmp) → (calls : X → X → Type 0) (c s m d : Nodes X) (p q : Ptr) (was : Element X) (w : X) → c ≡ s → q ≡ p → IsTaken c p was m → calls was.value w
      → IsPutWhere (SaysAfterEquals by w) m q (record { id = was.id; value = w }) d → ArrivesAnew calls by s p d
  arrives_anew by lawful calls c s m d p q was w view at (b, a, is, left) called u =
      let gone : IsTaken s p was m = (b, a, sym view ∙ is, left) in
      record {
        was = was;
        value = w;
        others = m;
        called = called;
        taken = gone;
        put = put_taken (SaysAfterEquals by w) m m d q p (record { id = was.id; value = w }) refl (sym at) u;
        rearranged = λ cmp a by_cmp h.
            let (rest, (out, stands)) = arranges_taken (lawful cmp by_cmp) s m a p was gone h in
            record {
              left = rest;
              taken = out;
              arrangement = put_arranges by cmp by_cmp (lawful cmp by_cmp) m m d rest q p (record { id = was.id; value = w }) refl (sym at) u stands;
            };
      }

  -- the last node was taken out
  pub last_taken : (c d : Nodes X) (p : Ptr) (e : Element X) → AreDistinct (spots c) → IsLast c p → IsTaken c p e d → c ≡ d ++ (p, e) ∷ []
  last_taken c d p e distinct (before, o, is) (front, back, was, left) =
      let k = same_place before [] front back p o e (subst (λ z. AreDistinct (spots z)) is distinct) (sym is ∙ was) in
      is ∙ (λ i. k.front i ++ (p, k.here i) ∷ []) ∙ ap (λ z. z ++ (p, e) ∷ []) (sym (append-nil front) ∙ ap (λ z. front ++ z) k.back ∙ sym left)
