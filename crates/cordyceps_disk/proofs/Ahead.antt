-- Where the elevator goes on: the first at or above a sector, once one came in or went.
use Rattle.std.proofs.Common.{◌≡◌, ℕ, ◌<◌, ◌≤◌, Bool, cond, nat_lt, [], ◌∷◌, ◌++◌, Option, Some, None, MatchOption, refl, ap, sym, ◌∙◌, subst, append_assoc, arith}
use Rattle.std.proofs.lemmas.Bool.{le-ltb, lt-ltb, ltb-false, ltb-true}
use Rattle.std.specs.List.{AllByRecursion}
use denote.RawPtr.{Ptr}
use Rattle.cordyceps.specs.Elements.Element.{Element}
use Rattle.cordyceps.specs.Elements.Nodes.{Nodes, spots}
use Rattle.cordyceps.specs.Spots.BySpot.{HasSpot, HoldsAt, IsTaken, IsFirst, IsLast, AreNext}
use Rattle.cordyceps.specs.Spots.Spots.{AreDistinct}
use Rattle.cordyceps.proofs.Orders.Preorder.{by_test}
use Rattle.cordyceps.proofs.Spots.Classes.{all_weaker}
use Rattle.cordyceps.proofs.Spots.Holding.{spot_is_at, unique}
use Rattle.cordyceps_disk.specs.declared.request.Waiting.{Waiting}
use Rattle.cordyceps_disk.specs.Pairs.{Rises, ahead_of, sector_of}
use Rattle.cordyceps_disk.specs.Queue.{put_by}
use Rattle.cordyceps_disk.proofs.Ordered.{low, high}

module _ {X : Type 0} where
  -- the spot of the first, and of the last
  abbrev pub first_spot : Nodes X → Option Ptr
  first_spot [] = None
  first_spot (n ∷ c) = Some n.0

  -- what lies in a list at a spot
  pub same_split : (c b a d z : Nodes X) (p : Ptr) (e o : Element X) → AreDistinct (spots c) → c ≡ b ++ (p, e) ∷ a → c ≡ d ++ (p, o) ∷ z → (b ≡ d) × (e ≡ o) × (a ≡ z)
  same_split c b a d z p e o distinct is was = unique b a d z p e o (sym is ∙ was) (subst (λ l. AreDistinct (spots l)) is distinct)

  pub holds_value : (c b a : Nodes X) (p : Ptr) (e : Element X) (w : X) → AreDistinct (spots c) → c ≡ b ++ (p, e) ∷ a → HoldsAt c p w → w ≡ e.value
  holds_value c b a p e w distinct is (before, id, after, was) =
      let same = same_split c b a before after p e (record { id = id; value = w }) distinct is was in sym (ap (λ (o : Element X). o.value) same.1)

  -- what `next` answers
  pub next_is : (c b a : Nodes X) (p : Ptr) (e : Element X) (r : Option Ptr) → AreDistinct (spots c) → c ≡ b ++ (p, e) ∷ a → MatchOption r (IsLast c p) (λ q. AreNext c p q) → r ≡ first_spot a
  next_is c b a p e None distinct is (before, o, was) =
      let same = same_split c b a before [] p e o distinct is was in sym (ap first_spot same.2)
  next_is c b a p e (Some q) distinct is (before, o, u, after, was) =
      let same = same_split c b a before ((q, u) ∷ after) p e o distinct is was in sym (ap first_spot same.2)

  -- what `prev` answers
  pub prev_none : (c b a : Nodes X) (p : Ptr) (e : Element X) → AreDistinct (spots c) → c ≡ b ++ (p, e) ∷ a → IsFirst c p → b ≡ []
  prev_none c b a p e distinct is (o, after, was) = (same_split c b a [] after p e o distinct is was).0

  pub prev_some : (c b a : Nodes X) (p q : Ptr) (e : Element X) → AreDistinct (spots c) → c ≡ b ++ (p, e) ∷ a → AreNext c q p → (d : Nodes X) × (o : Element X) × (b ≡ d ++ (q, o) ∷ [])
  prev_some c b a p q e distinct is (before, o, u, after, was) =
      let same = same_split c b a (before ++ (q, o) ∷ []) after p e u distinct is (was ∙ sym (append_assoc before ((q, o) ∷ []) ((p, u) ∷ after))) in (before, o, same.0)

module _ {P : Type 0} where
  on : (h : ℕ) (n : Ptr × Element (Waiting P)) (c : Nodes (Waiting P)) → sector_of n < h → ahead_of h (n ∷ c) ≡ ahead_of h c
  on h n c below = ap (λ t. cond t (ahead_of h c) (Some n.0)) (lt-ltb (sector_of n) h below)

  here : (h : ℕ) (n : Ptr × Element (Waiting P)) (c : Nodes (Waiting P)) → h ≤ sector_of n → ahead_of h (n ∷ c) ≡ Some n.0
  here h n c above = ap (λ t. cond t (ahead_of h c) (Some n.0)) (le-ltb (sector_of n) h above)

  -- those below are passed
  pub skip : (h : ℕ) (b c : Nodes (Waiting P)) → AllByRecursion (λ n. sector_of n < h) b → ahead_of h (b ++ c) ≡ ahead_of h c
  skip h [] c below = refl
  skip h (n ∷ b) c below = on h n (b ++ c) below.0 ∙ skip h b c below.1

  -- one below is passed
  pub pass : (h : ℕ) (b : Nodes (Waiting P)) (n : Ptr × Element (Waiting P)) (c : Nodes (Waiting P)) → sector_of n < h → ahead_of h (b ++ n ∷ c) ≡ ahead_of h (b ++ c)
  pass h [] n c below = on h n c below
  pass h (m ∷ b) n c below = ap (λ r. cond (nat_lt (sector_of m) h) r (Some m.0)) (pass h b n c below)

  -- nothing behind one at or above is looked at
  pub stop : (h : ℕ) (b : Nodes (Waiting P)) (n : Ptr × Element (Waiting P)) (c d : Nodes (Waiting P)) → h ≤ sector_of n → ahead_of h (b ++ n ∷ c) ≡ ahead_of h (b ++ n ∷ d)
  stop h [] n c d above = here h n c above ∙ sym (here h n d above)
  stop h (m ∷ b) n c d above = ap (λ r. cond (nat_lt (sector_of m) h) r (Some m.0)) (stop h b n c d above)

  pub all_above : (h : ℕ) (c : Nodes (Waiting P)) → AllByRecursion (λ n. h ≤ sector_of n) c → ahead_of h c ≡ first_spot c
  all_above h [] above = refl
  all_above h (n ∷ c) above = here h n c above.0

  -- the first at or above
  pub found : (h : ℕ) (c : Nodes (Waiting P)) (p : Ptr) → ahead_of h c ≡ Some p → (b : Nodes (Waiting P)) × (e : Element (Waiting P)) × (a : Nodes (Waiting P)) × (c ≡ b ++ (p, e) ∷ a) × AllByRecursion (λ n. sector_of n < h) b × (h ≤ e.value.request.sector)
  found h [] p is = absurd cc
  found h (n ∷ c) p is = by_test (nat_lt (sector_of n) h)
      (λ t. let below = ltb-true (sector_of n) h t in
      let (b, e, a, at, lower, above) = found h c p (sym (on h n c below) ∙ is) in (n ∷ b, e, a, ap (λ l. n ∷ l) at, (below, lower), above))
      (λ f. let above = ltb-false (sector_of n) h f in
      let same : Some n.0 ≡ Some p = sym (here h n c above) ∙ is in
      let at : n.0 ≡ p = cc in ([], n.1, c, (λ i. (at i, n.1) ∷ c), tt, above))

  pub found_spot : (h : ℕ) (c : Nodes (Waiting P)) (p : Ptr) → ahead_of h c ≡ Some p → HasSpot c p
  found_spot h c p is = let (b, e, a, at, _, _) = found h c p is in spot_is_at c p e (b, a, at)

  -- none at or above
  pub none_found : (h : ℕ) (c : Nodes (Waiting P)) → ahead_of h c ≡ None → AllByRecursion (λ n. sector_of n < h) c
  none_found h [] is = tt
  none_found h (n ∷ c) is = by_test (nat_lt (sector_of n) h)
      (λ t. let below = ltb-true (sector_of n) h t in (below, none_found h c (sym (on h n c below) ∙ is)))
      (λ f. let no : Some n.0 ≡ None = sym (here h n c (ltb-false (sector_of n) h f)) ∙ is in absurd cc)

  -- ---- one more
  pub put_below : (h : ℕ) (n : Ptr × Element (Waiting P)) (c : Nodes (Waiting P)) → sector_of n < h → ahead_of h (put_by sector_of n c) ≡ ahead_of h c
  put_below h n [] below = on h n [] below
  put_below h n (m ∷ c) below = by_test (nat_lt (sector_of n) (sector_of m))
      (λ t. ap (λ b. ahead_of h (cond b (n ∷ m ∷ c) (m ∷ put_by sector_of n c))) t ∙ on h n (m ∷ c) below)
      (λ f. ap (λ b. ahead_of h (cond b (n ∷ m ∷ c) (m ∷ put_by sector_of n c))) f ∙ ap (λ r. cond (nat_lt (sector_of m) h) r (Some m.0)) (put_below h n c below))

  pub put_only : (h : ℕ) (n : Ptr × Element (Waiting P)) (c : Nodes (Waiting P)) → h ≤ sector_of n → AllByRecursion (λ m. sector_of m < h) c → ahead_of h (put_by sector_of n c) ≡ Some n.0
  put_only h n [] above none = here h n [] above
  put_only h n (m ∷ c) above none = by_test (nat_lt (sector_of n) (sector_of m))
      (λ t. ap (λ b. ahead_of h (cond b (n ∷ m ∷ c) (m ∷ put_by sector_of n c))) t ∙ here h n (m ∷ c) above)
      (λ f. ap (λ b. ahead_of h (cond b (n ∷ m ∷ c) (m ∷ put_by sector_of n c))) f ∙ on h m (put_by sector_of n c) none.0 ∙ put_only h n c above none.1)

  pub put_before : (h : ℕ) (n : Ptr × Element (Waiting P)) (b a : Nodes (Waiting P)) (m : Ptr × Element (Waiting P)) → h ≤ sector_of n → AllByRecursion (λ l. sector_of l < h) b → sector_of n < sector_of m → ahead_of h (put_by sector_of n (b ++ m ∷ a)) ≡ Some n.0
  put_before h n [] a m above none less = ap (λ t. ahead_of h (cond t (n ∷ m ∷ a) (m ∷ put_by sector_of n a))) (lt-ltb (sector_of n) (sector_of m) less) ∙ here h n (m ∷ a) above
  put_before h n (l ∷ b) a m above none less = let s = b ++ m ∷ a in by_test (nat_lt (sector_of n) (sector_of l))
      (λ t. ap (λ r. ahead_of h (cond r (n ∷ l ∷ s) (l ∷ put_by sector_of n s))) t ∙ here h n (l ∷ s) above)
      (λ f. ap (λ r. ahead_of h (cond r (n ∷ l ∷ s) (l ∷ put_by sector_of n s))) f ∙ on h l (put_by sector_of n s) none.0 ∙ put_before h n b a m above none.1 less)

  pub put_behind : (h : ℕ) (n : Ptr × Element (Waiting P)) (b a : Nodes (Waiting P)) (m : Ptr × Element (Waiting P)) → h ≤ sector_of m → AllByRecursion (λ l. sector_of l < h) b → sector_of m ≤ sector_of n → ahead_of h (put_by sector_of n (b ++ m ∷ a)) ≡ Some m.0
  put_behind h n [] a m above none less = ap (λ t. ahead_of h (cond t (n ∷ m ∷ a) (m ∷ put_by sector_of n a))) (le-ltb (sector_of n) (sector_of m) less) ∙ here h m (put_by sector_of n a) above
  put_behind h n (l ∷ b) a m above none less = let s = b ++ m ∷ a in
      let past : sector_of l ≤ sector_of n = omega (arith, none.0, above, less) in
      ap (λ r. ahead_of h (cond r (n ∷ l ∷ s) (l ∷ put_by sector_of n s))) (le-ltb (sector_of n) (sector_of l) past) ∙ on h l (put_by sector_of n s) none.0 ∙ put_behind h n b a m above none.1 less

  -- what `leads` answers, where there is a first at or above the head, and where there is none
  pub leads_some : (h s : ℕ) (c : Nodes (Waiting P)) (p : Ptr) (w : Waiting P) (r : Bool) → AreDistinct (spots c) → ahead_of h c ≡ Some p → HoldsAt c p w → r ≡ nat_lt s w.request.sector → h ≤ s → (n : Ptr × Element (Waiting P)) → sector_of n ≡ s → ahead_of h (put_by sector_of n c) ≡ cond r (Some n.0) (Some p)
  leads_some h s c p w r distinct is holds answer above n same =
      let (b, e, a, at, none, high) = found h c p is in
      let value = holds_value c b a p e w distinct at holds in
      let key : w.request.sector ≡ e.value.request.sector = ap (λ (v : Waiting P). v.request.sector) value in
      ap (λ l. ahead_of h (put_by sector_of n l)) at ∙ by_test (nat_lt s w.request.sector)
      (λ t. let less = ltb-true s w.request.sector t in put_before h n b a (p, e) (omega (arith, above, same)) none (omega (arith, less, key, same)) ∙ sym (ap (λ v. cond v (Some n.0) (Some p)) (answer ∙ t)))
      (λ f. let most = ltb-false s w.request.sector f in put_behind h n b a (p, e) high none (omega (arith, most, key, same)) ∙ sym (ap (λ v. cond v (Some n.0) (Some p)) (answer ∙ f)))

  -- ---- one less
  module _ (h : ℕ) (c b a rest : Nodes (Waiting P)) (p : Ptr) (e o : Element (Waiting P)) (distinct : AreDistinct (spots c)) (rises : Rises sector_of c) (is : c ≡ b ++ (p, e) ∷ a) (gone : IsTaken c p o rest) where
    same : (b ≡ gone.0) × (e ≡ o) × (a ≡ gone.1)
    same = same_split c b a gone.0 gone.1 p e o distinct is gone.2

    pub rest_is : rest ≡ b ++ a
    rest_is = gone.3 ∙ (λ i. sym same.0 i ++ sym same.2 i)

    pub same_element : e ≡ o
    same_element = same.1

    -- below the head
    pub left_below : e.value.request.sector < h → ahead_of h c ≡ ahead_of h rest
    left_below below = ap (ahead_of h) is ∙ pass h b (p, e) a below ∙ sym (ap (ahead_of h) rest_is)

    -- one at or above it stands before
    pub left_behind : (d : Nodes (Waiting P)) (n : Ptr × Element (Waiting P)) → b ≡ d ++ n ∷ [] → h ≤ sector_of n → ahead_of h c ≡ ahead_of h rest
    left_behind d n before above =
        ap (ahead_of h) is ∙ ap (λ l. ahead_of h (l ++ (p, e) ∷ a)) before ∙ ap (ahead_of h) (append_assoc d (n ∷ []) ((p, e) ∷ a)) ∙ stop h d n ((p, e) ∷ a) a above
        ∙ sym (ap (ahead_of h) rest_is ∙ ap (λ l. ahead_of h (l ++ a)) before ∙ ap (ahead_of h) (append_assoc d (n ∷ []) a))

    above_all : h ≤ e.value.request.sector → AllByRecursion (λ n. h ≤ sector_of n) a
    above_all above = all_weaker (λ n. e.value.request.sector ≤ sector_of n) (λ n. h ≤ sector_of n) (λ n q. omega (arith, q, above)) a (high sector_of b a (p, e) (subst (Rises sector_of) is rises))

    -- it was the first
    pub left_first : h ≤ e.value.request.sector → AllByRecursion (λ n. sector_of n < h) b → first_spot a ≡ ahead_of h rest
    left_first above none = sym (ap (ahead_of h) rest_is ∙ skip h b a none ∙ all_above h a (above_all above))

  pub all_below : (h : ℕ) (c b d a : Nodes (Waiting P)) (n : Ptr × Element (Waiting P)) → Rises sector_of c → c ≡ b ++ a → b ≡ d ++ n ∷ [] → sector_of n < h → AllByRecursion (λ m. sector_of m < h) b
  all_below h c b d a n rises is before below =
      let whole : c ≡ d ++ n ∷ a = is ∙ ap (λ l. l ++ a) before ∙ append_assoc d (n ∷ []) a in
      let lower = low sector_of d a n (subst (Rises sector_of) whole rises) in
      subst (AllByRecursion (λ m. sector_of m < h)) (sym before) (joined d (all_weaker (λ m. sector_of m ≤ sector_of n) (λ m. sector_of m < h) (λ m q. omega (arith, q, below)) d lower)) where
        joined : (d : Nodes (Waiting P)) → AllByRecursion (λ m. sector_of m < h) d → AllByRecursion (λ m. sector_of m < h) (d ++ n ∷ [])
        joined [] q = (below, tt)
        joined (m ∷ d) q = (q.0, joined d q.1)

  -- ---- the walk back over those at one sector
  -- h: the sector; at: what is to go; the walk has come to place, and r is the first of those passed and those behind
  pub record Walked (h : ℕ) (c : Nodes (Waiting P)) (at place : Ptr) (r : Option Ptr) : Type 0 where
    pub front : Nodes (Waiting P)
    pub passed : Nodes (Waiting P)
    pub here : Element (Waiting P)
    pub behind : Nodes (Waiting P)
    pub gone : Element (Waiting P)
    pub before : Nodes (Waiting P)
    pub after : Nodes (Waiting P)
    pub holds : c ≡ before ++ (at, gone) ∷ after
    pub sector : h ≡ gone.value.request.sector
    pub left : before ++ after ≡ front ++ passed
    pub splits : c ≡ front ++ (place, here) ∷ behind
    pub first : r ≡ ahead_of h passed

  pub walk_starts : (h : ℕ) (c : Nodes (Waiting P)) (p : Ptr) (w : Waiting P) (r : Option Ptr) → AreDistinct (spots c) → Rises sector_of c → HasSpot c p → HoldsAt c p w → h ≡ w.request.sector → MatchOption r (IsLast c p) (λ q. AreNext c p q) → Walked h c p p r
  walk_starts h c p w r distinct rises there (b, id, a, is) at next =
      let e : Element (Waiting P) = record { id = id; value = w } in
      record {
        front = b;
        passed = a;
        here = e;
        behind = a;
        gone = e;
        before = b;
        after = a;
        holds = is;
        sector = at;
        left = refl;
        splits = is;
        first = next_is c b a p e r distinct is next ∙ sym (all_above h a (all_weaker (λ n. w.request.sector ≤ sector_of n) (λ n. h ≤ sector_of n) (λ n q. omega (arith, q, at)) a (high sector_of b a (p, e) (subst (Rises sector_of) is rises))));
      }

  module _ (h : ℕ) (c : Nodes (Waiting P)) (at place : Ptr) (r : Option Ptr) (distinct : AreDistinct (spots c)) (rises : Rises sector_of c) (w : Walked h c at place r) where
    pub walk_there : HasSpot c place
    walk_there = spot_is_at c place w.here (w.front, w.behind, w.splits)

    -- the one before is at the sector too
    pub walk_goes : (q : Ptr) (v : Waiting P) → AreNext c q place → HoldsAt c q v → h ≤ v.request.sector → Walked h c at q (Some q)
    walk_goes q v next holds above =
        let (d, o, is) = prev_some c w.front w.behind place q w.here distinct w.splits next in
        let split : c ≡ d ++ (q, o) ∷ (place, w.here) ∷ w.behind = w.splits ∙ ap (λ l. l ++ (place, w.here) ∷ w.behind) is ∙ append_assoc d ((q, o) ∷ []) ((place, w.here) ∷ w.behind) in
        let value = holds_value c d ((place, w.here) ∷ w.behind) q o v distinct split holds in
        record {
          front = d;
          passed = (q, o) ∷ w.passed;
          here = o;
          behind = (place, w.here) ∷ w.behind;
          gone = w.gone;
          before = w.before;
          after = w.after;
          holds = w.holds;
          sector = w.sector;
          left = w.left ∙ ap (λ l. l ++ w.passed) is ∙ append_assoc d ((q, o) ∷ []) w.passed;
          splits = split;
          first = sym (here h (q, o) w.passed (omega (arith, above, ap (λ (x : Waiting P). x.request.sector) value)));
        }

    module _ (e : Element (Waiting P)) (rest : Nodes (Waiting P)) (gone : IsTaken c at e rest) where
      is_gone : (w.gone ≡ e) × (rest ≡ w.front ++ w.passed)
      is_gone = let same = same_split c w.before w.after gone.0 gone.1 at w.gone e distinct w.holds gone.2 in (same.1, gone.3 ∙ (λ i. sym same.0 i ++ sym same.2 i) ∙ w.left)

      sector_is : h ≡ e.value.request.sector
      sector_is = w.sector ∙ ap (λ (o : Element (Waiting P)). o.value.request.sector) is_gone.0

      ends : ahead_of h (w.front ++ w.passed) ≡ ahead_of h w.passed → r ≡ ahead_of e.value.request.sector rest
      ends skipped = w.first ∙ sym skipped ∙ ap (ahead_of h) (sym is_gone.1) ∙ ap (λ k. ahead_of k rest) sector_is

      -- nothing is before
      pub walk_ends_first : IsFirst c place → r ≡ ahead_of e.value.request.sector rest
      walk_ends_first first = ends (ap (λ l. ahead_of h (l ++ w.passed)) (prev_none c w.front w.behind place w.here distinct w.splits first))

      -- the one before is at a lower sector
      pub walk_ends : (q : Ptr) (v : Waiting P) → AreNext c q place → HoldsAt c q v → v.request.sector < h → r ≡ ahead_of e.value.request.sector rest
      walk_ends q v next holds below =
          let (d, o, is) = prev_some c w.front w.behind place q w.here distinct w.splits next in
          let split : c ≡ d ++ (q, o) ∷ (place, w.here) ∷ w.behind = w.splits ∙ ap (λ l. l ++ (place, w.here) ∷ w.behind) is ∙ append_assoc d ((q, o) ∷ []) ((place, w.here) ∷ w.behind) in
          let value = holds_value c d ((place, w.here) ∷ w.behind) q o v distinct split holds in
          ends (skip h w.front w.passed (all_below h c w.front d ((place, w.here) ∷ w.behind) (q, o) rises w.splits is (omega (arith, below, ap (λ (x : Waiting P). x.request.sector) value))))

  -- ---- what `left_ahead` answers
  module _ (h : ℕ) (c rest : Nodes (Waiting P)) (p : Ptr) (e : Element (Waiting P)) (w : Waiting P) (distinct : AreDistinct (spots c)) (rises : Rises sector_of c) (gone : IsTaken c p e rest) (lent : HoldsAt c p w) where
    key : w.request.sector ≡ e.value.request.sector
    key = ap (λ (x : Waiting P). x.request.sector) (holds_value c gone.0 gone.1 p e w distinct gone.2 lent)

    pub goes_below : w.request.sector < h → ahead_of h c ≡ ahead_of h rest
    goes_below below = left_below h c gone.0 gone.1 rest p e e distinct rises gone.2 gone (omega (arith, below, key))

    pub goes_behind : (q : Ptr) (v : Waiting P) → AreNext c q p → HoldsAt c q v → h ≤ v.request.sector → ahead_of h c ≡ ahead_of h rest
    goes_behind q v next holds above =
        let (d, o, is) = prev_some c gone.0 gone.1 p q e distinct gone.2 next in
        let split : c ≡ d ++ (q, o) ∷ (p, e) ∷ gone.1 = gone.2 ∙ ap (λ l. l ++ (p, e) ∷ gone.1) is ∙ append_assoc d ((q, o) ∷ []) ((p, e) ∷ gone.1) in
        let value = holds_value c d ((p, e) ∷ gone.1) q o v distinct split holds in
        left_behind h c gone.0 gone.1 rest p e e distinct rises gone.2 gone d (q, o) is (omega (arith, above, ap (λ (x : Waiting P). x.request.sector) value))

    module _ (r : Option Ptr) (next : MatchOption r (IsLast c p) (λ q. AreNext c p q)) (above : h ≤ w.request.sector) where
      leaves : AllByRecursion (λ n. sector_of n < h) gone.0 → r ≡ ahead_of h rest
      leaves none = next_is c gone.0 gone.1 p e r distinct gone.2 next ∙ left_first h c gone.0 gone.1 rest p e e distinct rises gone.2 gone (omega (arith, above, key)) none

      pub goes_first : IsFirst c p → r ≡ ahead_of h rest
      goes_first first = leaves (subst (AllByRecursion (λ n. sector_of n < h)) (sym (prev_none c gone.0 gone.1 p e distinct gone.2 first)) tt)

      pub goes_after : (q : Ptr) (v : Waiting P) → AreNext c q p → HoldsAt c q v → v.request.sector < h → r ≡ ahead_of h rest
      goes_after q v before holds below =
          let (d, o, is) = prev_some c gone.0 gone.1 p q e distinct gone.2 before in
          let split : c ≡ d ++ (q, o) ∷ (p, e) ∷ gone.1 = gone.2 ∙ ap (λ l. l ++ (p, e) ∷ gone.1) is ∙ append_assoc d ((q, o) ∷ []) ((p, e) ∷ gone.1) in
          let value = holds_value c d ((p, e) ∷ gone.1) q o v distinct split holds in
          leaves (all_below h c gone.0 d ((p, e) ∷ gone.1) (q, o) rises gone.2 is (omega (arith, below, ap (λ (x : Waiting P). x.request.sector) value)))
