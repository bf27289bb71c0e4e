-- The element that comes out next, which is the first of the least time in the lowest bucket.
use Rattle.std.proofs.Common.{◌≡◌, Bool, true, false, ℕ, ◌<◌, ◌≤◌, ◌^◌, List, [], ◌∷◌, ◌++◌, Option, ap, sym, ◌∙◌, subst, arith}
use Rattle.std.proofs.lemmas.List.{append_assoc}
use Rattle.std.specs.List.{AllByRecursion}
use Rattle.std.specs.List.Sorted.{IsStableBy}
use Rattle.std.specs.Ordering.{nat_cmp}
use denote.RawPtr.{Ptr}
use Rattle.cordyceps_base.specs.Element.{Element}
use Rattle.cordyceps_base.specs.Nodes.{Nodes, spots}
use Rattle.cordyceps_base.specs.Spots.{AreDistinct}
use Rattle.cordyceps_single.specs.Arrangement.{IsEarliestLeast}
use Rattle.cordyceps_single.specs.ByKey.{by_key}
use Rattle.cordyceps_single.proofs.Keys.{not_less}
use Rattle.cordyceps_stable.specs.Agreeing.{HasElementAt}
use Rattle.cordyceps_stable.specs.Arranged.{precedes}
use Rattle.cordyceps_stable.proofs.Classes.{all_append, all_back, all_weaker}
use Rattle.cordyceps_stable.proofs.Holding.{unique}
use Rattle.cordyceps_stable.proofs.Firsts.{first_of}
use Rattle.cordyceps_clock.specs.Buckets.{number_at, IsFirstBucket, IsTimed}
use Rattle.cordyceps_clock.specs.Clock.{Holds}
use Rattle.cordyceps_clock.proofs.Numbers.{earlier}
use Rattle.cordyceps_clock.proofs.Spreads.{before, stable_put, times_rank}

module _ {X : Type 0} (of : X → ℕ) (clock k : ℕ) (ends : List (Option Ptr)) (c : Nodes X) (least : ℕ) (p : Ptr) (len : ℕ) (small : clock < 2 ^ 64) (timed : IsTimed of clock ends c) (b : IsFirstBucket of clock k c least p len) where
  abbrev Lt : Ptr × Element X → Ptr × Element X → Bool
  Lt = precedes (by_key nat_cmp of)

  pub front_there : (e : Element X) × HasElementAt c p e
  front_there =
      let (low, e, after, is, due, over) = b.reached in
      (e, (low, after ++ b.others, b.parts ∙ ap (λ l. l ++ b.others) is ∙ append_assoc low ((p, e) ∷ after) b.others))

  -- none of the other buckets is due as early
  beyond : (e : Element X) → of e.value ≡ least → number_at of clock (p, e) ≡ k → of e.value < 2 ^ 64 → AllByRecursion (λ y. Lt y (p, e) ≡ false) b.others
  beyond e due at fits = go b.others b.outside (all_back (λ n. (clock ≤ of n.1.value) × (of n.1.value < 2 ^ 64)) b.first b.others (subst (AllByRecursion (λ n. (clock ≤ of n.1.value) × (of n.1.value < 2 ^ 64))) b.parts timed.times)) where
    go : (s : Nodes X) → AllByRecursion (λ n. k < number_at of clock n) s → AllByRecursion (λ n. (clock ≤ of n.1.value) × (of n.1.value < 2 ^ 64)) s → AllByRecursion (λ y. Lt y (p, e) ≡ false) s
    go [] q t = tt
    go (m ∷ s) q t =
        let less : of e.value < of m.1.value = earlier clock (of e.value) (of m.1.value) small fits t.0.1 t.0.0 (omega (arith, q.0, at)) in
        (not_less (of m.1.value) (of e.value) (omega (arith, less)), go s q.1 t.1)

  pub front_least : (e : Element X) → AreDistinct (spots c) → HasElementAt c p e → (a : Nodes X) → Holds (by_key nat_cmp of) c a → (rest : Nodes X) × IsEarliestLeast Lt a (p, e) rest
  front_least e distinct (front, back, lies) a h =
      let (low, x, after, is, due, over) = b.reached in
      let whole : c ≡ low ++ (p, x) ∷ (after ++ b.others) = b.parts ∙ ap (λ l. l ++ b.others) is ∙ append_assoc low ((p, x) ∷ after) b.others in
      let same : e ≡ x = (unique front back low (after ++ b.others) p e x (sym lies ∙ whole) (subst (λ l. AreDistinct (spots l)) lies distinct)).1 in
      let inside = subst (AllByRecursion (λ n. (number_at of clock n ≡ k) × (least ≤ of n.1.value))) is b.inside in
      let own = all_back (λ n. (number_at of clock n ≡ k) × (least ≤ of n.1.value)) low ((p, x) ∷ after) inside in
      let fits = (all_back (λ n. (clock ≤ of n.1.value) × (of n.1.value < 2 ^ 64)) low ((p, x) ∷ (after ++ b.others)) (subst (AllByRecursion (λ n. (clock ≤ of n.1.value) × (of n.1.value < 2 ^ 64))) whole timed.times)).0 in
      let earlier_none = all_weaker (λ n. least < of n.1.value) (λ y. Lt y (p, x) ≡ false) (λ y q. not_less (of y.1.value) (of x.value) (omega (arith, q, due))) low over in
      let later_none = all_append (λ y. Lt y (p, x) ≡ false) after b.others (all_weaker (λ n. (number_at of clock n ≡ k) × (least ≤ of n.1.value)) (λ y. Lt y (p, x) ≡ false) (λ y q. not_less (of y.1.value) (of x.value) (omega (arith, q.1, due))) after own.1) (beyond x due own.0.0 fits.1) in
      let passed = all_weaker (λ n. least < of n.1.value) (λ y. Lt (p, x) y ≡ true) (λ y q. before of (p, x) y (omega (arith, q, due))) low over in
      let first = stable_put Lt (times_rank of) a [] low (after ++ b.others) (p, x) passed (subst (IsStableBy Lt a) whole h) in
      let out = first_of Lt (times_rank of) [] (low ++ (after ++ b.others)) a (p, x) first tt (all_append (λ y. Lt y (p, x) ≡ false) low (after ++ b.others) earlier_none later_none) in
      (out.0, subst (λ (o : Element X). IsEarliestLeast Lt a (p, o) out.0) (sym same) out.1.0)
