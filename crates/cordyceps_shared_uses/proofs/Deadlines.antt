-- Timers in the order of their times, where one more comes among them, and which are due.
use Rattle.std.proofs.Common.{◌≡◌, ℕ, ◌≤◌, ◌<◌, max, Bool, true, false, cond, nat_lt, [], ◌∷◌, ◌++◌, refl, ap, sym, ◌∙◌, subst, arith}
use Rattle.std.proofs.lemmas.Bool.{lt-ltb, ltb-true}
use Rattle.std.specs.declared.cmp.Ordering.{Ordering}
use Rattle.std.specs.Ordering.{is_lt, nat_cmp}
use Rattle.std.specs.List.{AllByRecursion}
use denote.RawPtr.{Ptr}
use Rattle.cordyceps.specs.Elements.Element.{Element}
use Rattle.cordyceps.specs.Elements.Nodes.{Nodes}
use Rattle.cordyceps.specs.Orders.ByKey.{by_key}
use Rattle.cordyceps.specs.Orders.Preorder.{IsPreorder, by_number_lawful}
use Rattle.cordyceps.specs.Spots.Arranged.{precedes, Arranges, AllGreater, LastNotGreater}
use Rattle.cordyceps.proofs.Orders.Arrangement.{Ascends, ascends_from_sorted, sorted_from_ascends}
use Rattle.cordyceps.proofs.Orders.Keys.{lt_is, not_less, at_most}
use Rattle.cordyceps.proofs.Orders.Preorder.{by_test, ranks}
use Rattle.cordyceps.proofs.Spots.Arranged.{arranges_itself, arranges_put}
use Rattle.cordyceps.proofs.Spots.Classes.{all_weaker}
use Rattle.cordyceps_shared_uses.specs.declared.timers.Timer.{Timer}
use Rattle.cordyceps_shared_uses.specs.Timers.{InOrder, due, started, time_of}

sooner : (a b : ℕ) → a < b → is_lt (nat_cmp a b) ≡ true
sooner a b h = lt_is a b ∙ lt-ltb a b h

module _ {P : Type 0} (clock : ℕ) where
  -- the order of timers
  abbrev pub by_time : Timer P → Timer P → Ordering
  by_time = by_key nat_cmp (λ (t : Timer P). max t.deadline clock)

  pub lawful : IsPreorder by_time
  lawful = by_number_lawful (λ (t : Timer P). max t.deadline clock)

  -- ---- in order of times, and by the order

  ascends : (s : Nodes (Timer P)) → InOrder clock s → Ascends (precedes by_time) s
  ascends [] h = tt
  ascends (x ∷ s) h = (
    all_weaker (λ y. time_of clock x.1 ≤ time_of clock y.1) (λ y. precedes by_time y x ≡ false) (λ y k. not_less (time_of clock y.1) (time_of clock x.1) k) s h.0,
    ascends s h.1,
  )

  in_order : (s : Nodes (Timer P)) → Ascends (precedes by_time) s → InOrder clock s
  in_order [] h = tt
  in_order (x ∷ s) h = (
    all_weaker (λ y. precedes by_time y x ≡ false) (λ y. time_of clock x.1 ≤ time_of clock y.1) (λ y k. at_most (time_of clock y.1) (time_of clock x.1) k) s h.0,
    in_order s h.1,
  )

  -- timers in order stand for themselves, and what stands for any is in order
  pub stands : (s : Nodes (Timer P)) → InOrder clock s → Arranges by_time s s
  stands s h = arranges_itself lawful s (sorted_from_ascends (precedes by_time) s (ascends s h))

  pub keeps_order : (s a : Nodes (Timer P)) → Arranges by_time s a → InOrder clock s
  keeps_order s a h = in_order s (ascends_from_sorted (precedes by_time) (ranks lawful (λ n. n.1.value)) s h.in_order)

  -- ---- where one more is put
  low_after : (v : Timer P) (x : Ptr × Element (Timer P)) (front : Nodes (Timer P)) → is_lt (by_time v x.1.value) ≡ false → LastNotGreater by_time v front → LastNotGreater by_time v (x ∷ front)
  low_after v x [] f low = f
  low_after v x (y ∷ front) f low = low

  all_greater : (v : Timer P) (x : Ptr × Element (Timer P)) (s : Nodes (Timer P)) → max v.deadline clock < time_of clock x.1 → InOrder clock (x ∷ s) → AllGreater by_time v (x ∷ s)
  all_greater v x s less h = (
    sooner (max v.deadline clock) (time_of clock x.1) less,
    all_weaker (λ y. time_of clock x.1 ≤ time_of clock y.1) (λ y. is_lt (by_time v y.1.value) ≡ true) (λ y k. sooner (max v.deadline clock) (time_of clock y.1) (omega (arith, less, k))) s h.0,
  )

  -- what is not later than t, and what is
  pub record Split (q : Ptr) (t : Element (Timer P)) (s : Nodes (Timer P)) : Type 0 where
    pub front : Nodes (Timer P)
    pub back : Nodes (Timer P)
    pub parts : s ≡ front ++ back
    pub put : started clock q t s ≡ front ++ (q, t) ∷ back
    pub low : LastNotGreater by_time t.value front
    pub high : AllGreater by_time t.value back

  split : (q : Ptr) (t : Element (Timer P)) (s : Nodes (Timer P)) → InOrder clock s → Split q t s
  split q t [] h = record { front = []; back = []; parts = refl; put = refl; low = tt; high = tt }
  split q t (x ∷ s) h =
      let put : Bool → Nodes (Timer P) = λ b. cond b ((q, t) ∷ x ∷ s) (x ∷ started clock q t s) in
      by_test (nat_lt (time_of clock t) (time_of clock x.1))
      (λ y. record {
        front = [];
        back = x ∷ s;
        parts = refl;
        put = ap put y;
        low = tt;
        high = all_greater t.value x s (ltb-true (time_of clock t) (time_of clock x.1) y) h;
      })
      (λ n. let on = split q t s h.1 in record {
        front = x ∷ on.front;
        back = on.back;
        parts = ap (λ l. x ∷ l) on.parts;
        put = ap put n ∙ ap (λ l. x ∷ l) on.put;
        low = low_after t.value x on.front (lt_is (time_of clock t) (time_of clock x.1) ∙ n) on.low;
        high = on.high;
      })

  -- what stands for some arrivals, with one more started, stands for these and the one
  pub starts : (q : Ptr) (t : Element (Timer P)) (s a : Nodes (Timer P)) → Arranges by_time s a → Arranges by_time (started clock q t s) (a ++ (q, t) ∷ [])
  starts q t s a h =
      let on = split q t s (keeps_order s a h) in
      subst (λ l. Arranges by_time l (a ++ (q, t) ∷ [])) (sym on.put) (arranges_put lawful on.front on.back a (q, t) on.low on.high (subst (λ l. Arranges by_time l a) on.parts h))

  -- ---- those that are due
  pub none_due : (now : ℕ) (s : Nodes (Timer P)) → AllByRecursion (λ n. now < time_of clock n.1) s → due clock now s ≡ []
  none_due now [] h = refl
  none_due now (x ∷ s) h = ap (λ b. cond b (due clock now s) (x ∷ due clock now s)) (lt-ltb now (time_of clock x.1) h.0) ∙ none_due now s h.1

  -- ---- another function that returns the same times
  pub times_are : (k : ℕ) → k ≡ clock → ◌≡◌ {A = Timer P → ℕ} (λ t. max t.deadline clock) (λ t. max t.deadline k)
  times_are k is = λ i t. max t.deadline (sym is i)
