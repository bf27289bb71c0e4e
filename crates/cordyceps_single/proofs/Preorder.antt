-- The three plain laws of a total preorder are those of std's total orders.
use Rattle.std.proofs.Common.{◌≡◌, Bool, true, false, refl, ap, sym, ◌∙◌}
use Rattle.std.proofs.lemmas.List.Sorted.{ranks_by}
use Rattle.std.specs.declared.cmp.Ordering.{Ordering}
use Rattle.std.specs.declared.cmp.Ordering.TheVariants.{Less, Equal, Greater}
use Rattle.std.specs.Ordering.{is_gt, is_lt, ordering_reverse}
use Rattle.std.specs.Cmp.{IsTotalOrder, IsStrictWeakOrder}
use Rattle.cordyceps_single.specs.Preorder.{IsPreorder}

pub by_test : {G : Type 0} (b : Bool) → (b ≡ true → G) → (b ≡ false → G) → G
by_test true p q = p refl
by_test false p q = q refl

same_by_gt : (r s : Ordering) → is_gt r ≡ is_gt s → is_gt (ordering_reverse r) ≡ is_gt (ordering_reverse s) → r ≡ s
same_by_gt Less Less p q = refl
same_by_gt Less Equal p q = absurd cc
same_by_gt Less Greater p q = absurd cc
same_by_gt Equal Less p q = absurd cc
same_by_gt Equal Equal p q = refl
same_by_gt Equal Greater p q = absurd cc
same_by_gt Greater Less p q = absurd cc
same_by_gt Greater Equal p q = absurd cc
same_by_gt Greater Greater p q = refl

less_by : (r : Ordering) → is_gt r ≡ false → is_gt (ordering_reverse r) ≡ true → r ≡ Less
less_by Less p q = refl
less_by Equal p q = absurd cc
less_by Greater p q = absurd cc

module _ {X : Type 0} {cmp : X → X → Ordering} (o : IsPreorder cmp) where
  below : (x y z : X) → cmp x y ≡ Less → cmp y z ≡ Less → cmp x z ≡ Less
  below x y z p q =
      less_by (cmp x z) (o.trans x y z (ap is_gt p) (ap is_gt q))
      (by_test (is_gt (ordering_reverse (cmp x z))) (λ t. t) (λ f.
      let back : is_gt (cmp z y) ≡ false = o.trans z x y (ap is_gt (o.turns z x) ∙ f) (ap is_gt p) in
      let high : is_gt (cmp z y) ≡ true = ap is_gt (o.turns z y ∙ ap ordering_reverse q) in
      absurd cc))

  same_above : (x y z : X) → is_gt (cmp x y) ≡ false → is_gt (cmp y x) ≡ false → is_gt (cmp x z) ≡ is_gt (cmp y z)
  same_above x y z p q =
      by_test (is_gt (cmp x z))
      (λ t. by_test (is_gt (cmp y z)) (λ u. t ∙ sym u) (λ u. let c = o.trans x y z p u in absurd cc))
      (λ t. by_test (is_gt (cmp y z)) (λ u. let c = o.trans y x z q t in absurd cc) (λ u. t ∙ sym u))

  same_below : (x y z : X) → is_gt (cmp x y) ≡ false → is_gt (cmp y x) ≡ false → is_gt (cmp z x) ≡ is_gt (cmp z y)
  same_below x y z p q =
      by_test (is_gt (cmp z x))
      (λ t. by_test (is_gt (cmp z y)) (λ u. t ∙ sym u) (λ u. let c = o.trans z y x u q in absurd cc))
      (λ t. by_test (is_gt (cmp z y)) (λ u. let c = o.trans z x y t p in absurd cc) (λ u. t ∙ sym u))

  pub total_from_preorder : IsTotalOrder cmp
  total_from_preorder = record {
    antisymm = o.turns;
    trans = below;
    congr = λ x y z e.
        let p : is_gt (cmp x y) ≡ false = ap is_gt e in
        let q : is_gt (cmp y x) ≡ false = ap is_gt (o.turns y x ∙ ap ordering_reverse e) in
        same_by_gt (cmp x z) (cmp y z) (same_above x y z p q) (ap is_gt (sym (o.turns z x)) ∙ same_below x y z p q ∙ ap is_gt (o.turns z y));
  }

-- whatever has values ranks by them
pub ranks : {A X : Type 0} {cmp : X → X → Ordering} → IsPreorder cmp → (value : A → X) → IsStrictWeakOrder (λ x y. is_lt (cmp (value x) (value y)))
ranks o value = ranks_by (total_from_preorder o) value
