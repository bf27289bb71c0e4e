-- What is left of a walk, from one node to the next.
use Rattle.std.proofs.Common.{◌≡◌, zero, suc, ◌≤◌, Bool, false, if◌then◌else◌, [], ◌∷◌, ◌++◌, length, drop, Option, Some, None, MatchOption, sym, ap, ◌∙◌, subst, arith, append_assoc}
use Rattle.std.proofs.lemmas.List.{length-drop, length-map}
use Rattle.std.specs.Prelude.{IfSome}
use denote.RawPtr.{Ptr}
use Rattle.cordyceps_base.specs.BySpot.{HasSpot, HoldsAt, IsFirst, IsLast, AreNext}
use Rattle.cordyceps_base.specs.Element.{Element}
use Rattle.cordyceps_base.specs.Nodes.{Nodes, spots, entries}
use Rattle.cordyceps_base.specs.Spots.{same_ptr, index_of, IsNew, AreDistinct}
use Rattle.cordyceps_base.proofs.SpotsMemory.{same_ptr_refl}
use Rattle.cordyceps_stable.proofs.Reached.{first_has}
use Rattle.cordyceps_tree.specs.Walks.{walk_from}
use Rattle.cordyceps_tree.proofs.Descending.{same_place}
use Rattle.cordyceps_tree.proofs.HookRows.{other_way}

module _ {X : Type 0} where
  pub differs : (q p : Ptr) (b a : Nodes X) (e : Element X) → IsNew q (spots (b ++ (p, e) ∷ a)) → same_ptr p q ≡ false
  differs q p [] a e n = other_way q p n.0
  differs q p (x ∷ b) a e n = differs q p b a e n.1

  from_mid : (b a : Nodes X) (p : Ptr) (e : Element X) → AreDistinct (spots (b ++ (p, e) ∷ a)) → drop (index_of p (spots (b ++ (p, e) ∷ a))) (b ++ (p, e) ∷ a) ≡ (p, e) ∷ a
  from_mid [] a p e d = ap (λ (z : Bool). drop (if z then zero else suc (index_of p (spots a))) ((p, e) ∷ a)) (same_ptr_refl p)
  from_mid (x ∷ b) a p e d =
      ap (λ (z : Bool). drop (if z then zero else suc (index_of p (spots (b ++ (p, e) ∷ a)))) (x ∷ (b ++ (p, e) ∷ a))) (differs x.0 p b a e d.0) ∙ from_mid b a p e d.1

  pub from_here : (c b a : Nodes X) (p : Ptr) (e : Element X) → AreDistinct (spots c) → c ≡ b ++ (p, e) ∷ a → walk_from c (Some p) ≡ (p, e.value) ∷ entries a
  from_here c b a p e d is =
      ap (λ z. entries (drop (index_of p (spots z)) z)) is ∙ ap entries (from_mid b a p e (subst (λ z. AreDistinct (spots z)) is d))

  pub from_first : (c : Nodes X) (o : Option Ptr) → AreDistinct (spots c) → MatchOption o (c ≡ []) (λ p. IsFirst c p) → walk_from c o ≡ entries c
  from_first c None d e = sym (ap entries e)
  from_first c (Some p) d (e, a, is) = from_here c [] a p e d is ∙ sym (ap entries is)

  pub first_spot_has : (c : Nodes X) (o : Option Ptr) → MatchOption o (c ≡ []) (λ p. IsFirst c p) → IfSome o (λ p. HasSpot c p)
  first_spot_has c None m = tt
  first_spot_has c (Some p) m = first_has c p m

  pub from_next : (c : Nodes X) (p : Ptr) (w : X) (o : Option Ptr) → AreDistinct (spots c) → HoldsAt c p w → MatchOption o (IsLast c p) (λ q. AreNext c p q) → walk_from c (Some p) ≡ (p, w) ∷ walk_from c o
  from_next c p w None d (b, id, a, is) (l, e, last) =
      let same = same_place b a l [] p (record { id = id; value = w }) e (subst (λ z. AreDistinct (spots z)) is d) (sym is ∙ last) in
      from_here c b a p (record { id = id; value = w }) d is ∙ ap (λ z. (p, w) ∷ entries z) same.back
  from_next c p w (Some q) d (b, id, a, is) (l, e, o, r, next) =
      let same = same_place b a l ((q, o) ∷ r) p (record { id = id; value = w }) e (subst (λ z. AreDistinct (spots z)) is d) (sym is ∙ next) in
      from_here c b a p (record { id = id; value = w }) d is ∙ ap (λ z. (p, w) ∷ entries z) same.back
      ∙ ap (λ z. (p, w) ∷ z) (sym (from_here c (l ++ (p, e) ∷ []) r q o d (next ∙ sym (append_assoc l ((p, e) ∷ []) ((q, o) ∷ r)))))

  pub from_long : (c : Nodes X) (o : Option Ptr) → length (walk_from c o) ≤ length c
  from_long c None = omega arith
  from_long c (Some p) = let k = index_of p (spots c) in let a = length-map {B = Ptr × X} (drop k c) (λ n. (n.0, n.1.value)) in let b = length-drop k c in omega (arith, a, b)
