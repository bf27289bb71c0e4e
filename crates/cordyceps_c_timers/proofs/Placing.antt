-- Nodes in the order of a number, and where one more comes among them.
use Rattle.std.proofs.Common.{◌≡◌, ℕ, ◌≤◌, ◌<◌, Bool, true, false, cond, nat_lt, [], ◌∷◌, ◌++◌, refl, ap, sym, ◌∙◌, subst, arith}
use Rattle.std.proofs.lemmas.Bool.{lt-ltb, ltb-true}
use Rattle.std.specs.declared.cmp.Ordering.{Ordering}
use Rattle.std.specs.Ordering.{is_lt, nat_cmp}
use denote.RawPtr.{Ptr}
use Rattle.cordyceps_base.specs.Element.{Element}
use Rattle.cordyceps_base.specs.Nodes.{Nodes}
use Rattle.cordyceps_single.specs.ByKey.{by_key}
use Rattle.cordyceps_single.specs.Preorder.{IsPreorder, by_number_lawful}
use Rattle.cordyceps_stable.specs.Arranged.{precedes, Arranges, AllGreater, LastNotGreater}
use Rattle.cordyceps_single.proofs.Arrangement.{Ascends, ascends_from_sorted, sorted_from_ascends}
use Rattle.cordyceps_single.proofs.Keys.{lt_is, not_less, at_most}
use Rattle.cordyceps_single.proofs.Preorder.{by_test, ranks}
use Rattle.cordyceps_stable.proofs.Arranged.{arranges_itself, arranges_put}
use Rattle.cordyceps_stable.proofs.Classes.{all_weaker}
use Rattle.cordyceps_c_timers.specs.Arranged.{InOrder, placed}

less : (a b : ℕ) → a < b → is_lt (nat_cmp a b) ≡ true
less a b h = lt_is a b ∙ lt-ltb a b h

module _ {X : Type 0} (number : X → ℕ) where
  abbrev pub by_number : X → X → Ordering
  by_number = by_key nat_cmp number

  pub lawful : IsPreorder by_number
  lawful = by_number_lawful number

  -- ---- in the order of the number, and by the order that it makes

  ascends : (s : Nodes X) → InOrder number s → Ascends (precedes by_number) s
  ascends [] h = tt
  ascends (x ∷ s) h = (
    all_weaker (λ y. number x.1.value ≤ number y.1.value) (λ y. precedes by_number y x ≡ false) (λ y k. not_less (number y.1.value) (number x.1.value) k) s h.0,
    ascends s h.1,
  )

  in_order : (s : Nodes X) → Ascends (precedes by_number) s → InOrder number s
  in_order [] h = tt
  in_order (x ∷ s) h = (
    all_weaker (λ y. precedes by_number y x ≡ false) (λ y. number x.1.value ≤ number y.1.value) (λ y k. at_most (number y.1.value) (number x.1.value) k) s h.0,
    in_order s h.1,
  )

  -- nodes in order stand for themselves, and what stands for any is in order
  pub stands : (s : Nodes X) → InOrder number s → Arranges by_number s s
  stands s h = arranges_itself lawful s (sorted_from_ascends (precedes by_number) s (ascends s h))

  pub keeps_order : (s a : Nodes X) → Arranges by_number s a → InOrder number s
  keeps_order s a h = in_order s (ascends_from_sorted (precedes by_number) (ranks lawful (λ n. n.1.value)) s h.in_order)

  -- ---- where one more is put
  low_after : (v : X) (x : Ptr × Element X) (front : Nodes X) → is_lt (by_number v x.1.value) ≡ false → LastNotGreater by_number v front → LastNotGreater by_number v (x ∷ front)
  low_after v x [] f low = f
  low_after v x (y ∷ front) f low = low

  all_greater : (v : X) (x : Ptr × Element X) (s : Nodes X) → number v < number x.1.value → InOrder number (x ∷ s) → AllGreater by_number v (x ∷ s)
  all_greater v x s below h = (
    less (number v) (number x.1.value) below,
    all_weaker (λ y. number x.1.value ≤ number y.1.value) (λ y. is_lt (by_number v y.1.value) ≡ true) (λ y k. less (number v) (number y.1.value) (omega (arith, below, k))) s h.0,
  )

  -- what has no greater number than t, and what has
  pub record Split (q : Ptr) (t : Element X) (s : Nodes X) : Type 0 where
    pub front : Nodes X
    pub back : Nodes X
    pub parts : s ≡ front ++ back
    pub put : placed number q t s ≡ front ++ (q, t) ∷ back
    pub low : LastNotGreater by_number t.value front
    pub high : AllGreater by_number t.value back

  pub split : (q : Ptr) (t : Element X) (s : Nodes X) → InOrder number s → Split q t s
  split q t [] h = record { front = []; back = []; parts = refl; put = refl; low = tt; high = tt }
  split q t (x ∷ s) h =
      let put : Bool → Nodes X = λ b. cond b ((q, t) ∷ x ∷ s) (x ∷ placed number q t s) in
      by_test (nat_lt (number t.value) (number x.1.value))
      (λ y. record {
        front = [];
        back = x ∷ s;
        parts = refl;
        put = ap put y;
        low = tt;
        high = all_greater t.value x s (ltb-true (number t.value) (number x.1.value) y) h;
      })
      (λ n. let on = split q t s h.1 in record {
        front = x ∷ on.front;
        back = on.back;
        parts = ap (λ l. x ∷ l) on.parts;
        put = ap put n ∙ ap (λ l. x ∷ l) on.put;
        low = low_after t.value x on.front (lt_is (number t.value) (number x.1.value) ∙ n) on.low;
        high = on.high;
      })

  -- what stands for some arrivals, with one more placed, stands for these and the one
  pub places : (q : Ptr) (t : Element X) (s a : Nodes X) → Arranges by_number s a → Arranges by_number (placed number q t s) (a ++ (q, t) ∷ [])
  places q t s a h =
      let on = split q t s (keeps_order s a h) in
      subst (λ l. Arranges by_number l (a ++ (q, t) ∷ [])) (sym on.put) (arranges_put lawful on.front on.back a (q, t) on.low on.high (subst (λ l. Arranges by_number l a) on.parts h))
