-- The nodes of a range of keys.
use Rattle.std.proofs.Common.{◌≡◌, ◌≤◌, Bool, true, false, if◌then◌else◌, List, [], ◌∷◌, ◌++◌, length, Option, Some, None, refl, sym, ap, ◌∙◌, arith}
use Rattle.std.specs.Cmp.{IsTotalOrder}
use Rattle.std.specs.List.{AllByRecursion, filter}
use Rattle.std.specs.Ordering.{is_lt, is_gt, ordering_reverse}
use Rattle.std.specs.declared.cmp.Ordering.{Ordering}
use Rattle.std.specs.declared.cmp.Ordering.TheVariants.{Less, Equal, Greater}
use denote.RawPtr.{Ptr}
use Rattle.cordyceps_base.specs.BySpot.{HoldsAt}
use Rattle.cordyceps_base.specs.Element.{Element}
use Rattle.cordyceps_base.specs.Nodes.{Nodes, spots, entries}
use Rattle.cordyceps_base.specs.Spots.{AreDistinct}
use Rattle.cordyceps_single.proofs.Arrangement.{in_class, out_of_class, none_in, all_weaker}
use Rattle.cordyceps_tree.specs.Bounds.{first_spot, FirstSaid, IsBoundWhere}
use Rattle.cordyceps_tree.specs.TreeMaps.{key_of, Rises, between, until}
use Rattle.cordyceps_tree.specs.Walks.{walk_from}
use Rattle.cordyceps_tree.proofs.Keys.{bound, by_test, Above}
use Rattle.cordyceps_tree.proofs.Walks.{from_here}

gt_turned : (o : Ordering) → is_lt (ordering_reverse o) ≡ is_gt o
gt_turned Less = refl
gt_turned Equal = refl
gt_turned Greater = refl

is_less : (o : Ordering) → is_lt o ≡ true → o ≡ Less
is_less Less e = refl
is_less Equal e = absurd cc
is_less Greater e = absurd cc

module _ {K V : Type 0} (cmp : K → K → Ordering) (t : IsTotalOrder cmp) where
  -- ---- a walk up to a key
  pub until_below : (high : K) (x : Ptr × (K × V)) (s : List (Ptr × (K × V))) → is_lt (cmp x.1.0 high) ≡ true → until cmp high (x ∷ s) ≡ x ∷ until cmp high s
  until_below high x s e = ap (λ (b : Bool). if b then x ∷ until cmp high s else []) e

  pub until_over : (high : K) (x : Ptr × (K × V)) (s : List (Ptr × (K × V))) → is_lt (cmp x.1.0 high) ≡ false → until cmp high (x ∷ s) ≡ []
  until_over high x s e = ap (λ (b : Bool). if b then x ∷ until cmp high s else []) e

  pub until_long : (high : K) (s : List (Ptr × (K × V))) → length (until cmp high s) ≤ length s
  until_long high [] = omega arith
  until_long high (x ∷ s) = by_test (is_lt (cmp x.1.0 high))
      (λ y. let a = ap length (until_below high x s y) in let b = until_long high s in omega (arith, a, b))
      (λ f. let a = ap length (until_over high x s f) in omega (arith, a))

  -- ---- the nodes of the range
  abbrev test : K → K → Ptr × Element (K × V) → Bool
  test low high n = if is_lt (cmp (key_of n) low) then false else is_lt (cmp (key_of n) high)

  too_low : (low high : K) (n : Ptr × Element (K × V)) → cmp (key_of n) low ≡ Less → test low high n ≡ false
  too_low low high n e = ap (λ (o : Ordering). if is_lt o then false else is_lt (cmp (key_of n) high)) e

  high_enough : (low high : K) (n : Ptr × Element (K × V)) → is_lt (cmp (key_of n) low) ≡ false → test low high n ≡ is_lt (cmp (key_of n) high)
  high_enough low high n e = ap (λ (b : Bool). if b then false else is_lt (cmp (key_of n) high)) e

  skip_low : (low high : K) (a b : Nodes (K × V)) → AllByRecursion (λ n. cmp (key_of n) low ≡ Less) a → filter (test low high) (a ++ b) ≡ filter (test low high) b
  skip_low low high [] b h = refl
  skip_low low high (n ∷ a) b h = out_of_class (test low high) n (a ++ b) (too_low low high n h.0) ∙ skip_low low high a b h.1

  abbrev NotLow : K → Nodes (K × V) → Type 0
  NotLow low = AllByRecursion (λ n. is_lt (cmp (key_of n) low) ≡ false)

  not_low : (low : K) (s : Nodes (K × V)) → Rises cmp s → FirstSaid (λ x b. b ≡ is_gt (cmp low x.0)) s → NotLow low s
  not_low low [] r f = tt
  not_low low (n ∷ s) r f =
      let first : is_lt (cmp (key_of n) low) ≡ false = ap is_lt (t.antisymm (key_of n) low) ∙ gt_turned (cmp low (key_of n)) ∙ sym f in
      (first, all_weaker (λ m. cmp (key_of n) (key_of m) ≡ Less) (λ m. is_lt (cmp (key_of m) low) ≡ false) (λ m e. by_test (is_lt (cmp (key_of m) low)) (λ y. let far = t.trans (key_of n) (key_of m) low e (is_less (cmp (key_of m) low) y) in let no = ap is_lt far in absurd cc) (λ z. z)) s r.0)

  -- what comes after a node that is not below a key is not below it either
  over_all : (high : K) (n : Ptr × Element (K × V)) (s : Nodes (K × V)) → is_lt (cmp (key_of n) high) ≡ false → Above cmp t (key_of n) s → AllByRecursion (λ m. is_lt (cmp (key_of m) high) ≡ false) s
  over_all high n s e h = all_weaker (λ m. cmp (key_of n) (key_of m) ≡ Less) (λ m. is_lt (cmp (key_of m) high) ≡ false) (λ m l. by_test (is_lt (cmp (key_of m) high)) (λ y. let far = t.trans (key_of n) (key_of m) high l (is_less (cmp (key_of m) high) y) in let no = ap is_lt far in absurd cc) (λ z. z)) s h

  none_over : (low high : K) (s : Nodes (K × V)) → NotLow low s → AllByRecursion (λ m. is_lt (cmp (key_of m) high) ≡ false) s → AllByRecursion (λ m. test low high m ≡ false) s
  none_over low high [] h k = tt
  none_over low high (n ∷ s) h k = (high_enough low high n h.0 ∙ k.0, none_over low high s h.1 k.1)

  until_is : (low high : K) (s : Nodes (K × V)) → NotLow low s → Rises cmp s → until cmp high (entries s) ≡ entries (filter (test low high) s)
  until_is low high [] h r = refl
  until_is low high (n ∷ s) h r = by_test (is_lt (cmp (key_of n) high))
      (λ y. until_below high (n.0, n.1.value) (entries s) y ∙ ap (λ l. (n.0, n.1.value) ∷ l) (until_is low high s h.1 r.1) ∙ sym (ap entries (in_class (test low high) n s (high_enough low high n h.0 ∙ y))))
      (λ f. until_over high (n.0, n.1.value) (entries s) f ∙ sym (ap entries (none_in (test low high) (n ∷ s) (none_over low high (n ∷ s) h (f, over_all high n s f r.0)))))

  walked : (c : Nodes (K × V)) (a b : Nodes (K × V)) (o : Option Ptr) → AreDistinct (spots c) → c ≡ a ++ b → o ≡ first_spot b → walk_from c o ≡ entries b
  walked c a [] None d is at = refl
  walked c a [] (Some p) d is at = absurd cc
  walked c a (n ∷ b) None d is at = absurd cc
  walked c a (n ∷ b) (Some p) d is at =
      let here : p ≡ n.0 = cc in
      from_here c a b p n.1 d (is ∙ ap (λ z. a ++ (z, n.1) ∷ b) (sym here)) ∙ ap (λ z. (z, n.1.value) ∷ entries b) here

  pub ranged : (c v : Nodes (K × V)) (low high : K) (o : Option Ptr) → c ≡ v → Rises cmp c → AreDistinct (spots c) → IsBoundWhere (λ (x : K × V) b. b ≡ is_gt (cmp low x.0)) c o → until cmp high (walk_from c o) ≡ entries (between cmp low high v)
  ranged c v low high o view r d u =
      let w = bound cmp t c low o r u in
      ap (until cmp high) (walked c w.front w.back o d w.was w.at) ∙ until_is low high w.back (not_low low w.back w.rises w.high) w.rises
      ∙ sym (ap entries (ap (filter (test low high)) (sym view ∙ w.was) ∙ skip_low low high w.front w.back w.low))

  -- a walk from a node on begins with it
  pub walk_here : (c : Nodes (K × V)) (p : Ptr) (x : K × V) → AreDistinct (spots c) → HoldsAt c p x → (s : List (Ptr × (K × V))) × (walk_from c (Some p) ≡ (p, x) ∷ s)
  walk_here c p x d (b, id, a, is) = (entries a, from_here c b a p (record { id = id; value = x }) d is)
