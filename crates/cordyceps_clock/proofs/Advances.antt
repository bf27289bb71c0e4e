-- The clock becomes the least time: the first bucket is spread over those below, and the others stay.
use Rattle.std.proofs.Common.{Bool, ◌≡◌, ℕ, suc, zero, ◌<◌, ◌≤◌, ◌^◌, List, [], ◌∷◌, ◌++◌, length, get_or, slice_set, Option, None, min, refl, sym, ap, ◌∙◌, subst, inl, inr, arith}
use Rattle.std.specs.List.{AllByRecursion, filter}
use Rattle.std.specs.List.Sorted.{IsPermutation, IsStableBy, ties}
use Rattle.std.proofs.lemmas.Bool.{cases_eq, cases_lt}
use Rattle.std.proofs.lemmas.List.{get_or-set_same, get_or-set_other}
use Rattle.std.proofs.lemmas.List.Elements.{filter-append}
use Rattle.std.proofs.lemmas.List.Sorted.{IsPermutation-sym, IsPermutation-append_left}
use denote.RawPtr.{Ptr}
use Rattle.cordyceps_base.specs.Element.{Element}
use Rattle.cordyceps_base.specs.Nodes.{Nodes}
use Rattle.cordyceps_single.specs.ByKey.{AscendsBy}
use Rattle.cordyceps_stable.proofs.Classes.{all_append, all_front, all_back, all_weaker}
use Rattle.cordyceps_clock.specs.Buckets.{bucket_of, last_spot, number_at, row, AreDue, AreLater, IsAdvanced, IsKept, IsFirstBucket, IsSpreading, IsTimed}
use Rattle.cordyceps_clock.proofs.Numbers.{clock_itself, is_clock, bucket-le, earlier, stays, falls}
use Rattle.cordyceps_clock.proofs.Spreads.{permuted}
use Rattle.cordyceps_clock.proofs.Rows.{row_in, row_out, row_none, row_below, row_two}

module _ {A : Type 0} where
  both : (P Q : A → Type 0) (xs : List A) → AllByRecursion P xs → AllByRecursion Q xs → AllByRecursion (λ x. P x × Q x) xs
  both P Q [] p q = tt
  both P Q (x ∷ xs) p q = ((p.0, q.0), both P Q xs p.1 q.1)

  ascends_back : (number : A → ℕ) (xs ys : List A) → AscendsBy number (xs ++ ys) → AscendsBy number ys
  ascends_back number [] ys h = h
  ascends_back number (x ∷ xs) ys h = ascends_back number xs ys h.1

  at_place : (P : A → Type 0) (xs : List A) (y : A) (ys : List A) → AllByRecursion P (xs ++ y ∷ ys) → P y
  at_place P xs y ys h = (all_back P xs (y ∷ ys) h).0

module _ {Y : Type 0} (f g : Ptr × Y → ℕ) where
  abbrev Ns : Type 0
  Ns = List (Ptr × Y)

  -- numbers that agree on all nodes
  same_above : (n : ℕ) (c : Ns) → AllByRecursion (λ x. f x ≡ g x) c → AllByRecursion (λ x. n ≤ f x) c → AllByRecursion (λ x. n ≤ g x) c
  same_above n [] h p = tt
  same_above n (x ∷ c) h p = (omega (arith, h.0, p.0), same_above n c h.1 p.1)

  same_ascends : (c : Ns) → AllByRecursion (λ x. f x ≡ g x) c → AscendsBy f c → AscendsBy g c
  same_ascends [] h p = tt
  same_ascends (x ∷ c) h p = (subst (λ n. AllByRecursion (λ y. n ≤ g y) c) h.0 (same_above (f x) c h.1 p.0), same_ascends c h.1 p.1)

  same_row : (k : ℕ) (c : Ns) → AllByRecursion (λ x. f x ≡ g x) c → row f k c ≡ row g k c
  same_row k [] h = refl
  same_row k (x ∷ c) h = elim (cases_eq (f x) k) [
    | inl is ↦ row_in f k x c is ∙ ap (λ l. x ∷ l) (same_row k c h.1) ∙ sym (row_in g k x c (sym h.0 ∙ is))
    | inr other ↦ row_out f k x c other ∙ same_row k c h.1 ∙ sym (row_out g k x c (λ is. other (h.0 ∙ is)))
  ]

module _ {X : Type 0} (of : X → ℕ) (clock j : ℕ) (ends : List (Option Ptr)) (c : Nodes X) (least : ℕ) (p : Ptr) (len : ℕ) (small : clock < 2 ^ 64) (timed : IsTimed of clock ends c) (b : IsFirstBucket of clock (suc j) c least p len) where
  abbrev InTime : Ptr × Element X → Type 0
  InTime n = (clock ≤ of n.1.value) × (of n.1.value < 2 ^ 64)

  times : AllByRecursion InTime (b.first ++ b.others)
  times = subst (AllByRecursion InTime) b.parts timed.times

  -- the node that is due at the least time
  the_least : (n : Ptr × Element X) × InTime n × (number_at of clock n ≡ suc j) × (of n.1.value ≡ least)
  the_least =
      let (before, e, after, is, due, over) = b.reached in let n : Ptr × Element X = (p, e) in
      let inside = at_place (λ m. (number_at of clock m ≡ suc j) × (least ≤ of m.1.value)) before n after (subst (AllByRecursion (λ m. (number_at of clock m ≡ suc j) × (least ≤ of m.1.value))) is b.inside) in
      let time = at_place InTime before n after (subst (AllByRecursion InTime) is (all_front InTime b.first b.others times)) in
      (n, time, inside.0, due)

  -- where the clock comes to
  reaches : (until next : ℕ) → clock ≤ until → until < 2 ^ 64 → suc j ≤ bucket_of clock until → next ≡ min least until → (clock ≤ next) × (next ≤ least) × (bucket_of clock next ≡ suc j)
  reaches until next from fits high is =
      let (n, time, at, due) = the_least in
      let there : bucket_of clock least ≡ suc j = ap (bucket_of clock) (sym due) ∙ at in
      elim (cases_lt until least) [
        | inl less ↦
            let only : next ≡ until = omega (arith, less, is) in
            let low : bucket_of clock until ≤ bucket_of clock least = bucket-le clock until least small fits (omega (arith, time.1, due)) from (omega (arith, less)) in
            let mid : bucket_of clock until ≡ suc j = omega (arith, low, high, there) in
            (omega (arith, only, from), omega (arith, only, less), ap (bucket_of clock) only ∙ mid)
        | inr more ↦
            let only : next ≡ least = omega (arith, more, is) in
            (omega (arith, only, time.0, due), omega (arith, only), ap (bucket_of clock) only ∙ there)
      ]

  module _ (new : List (Option Ptr)) (next : ℕ) (from : clock ≤ next) (upto : next ≤ least) (in_bucket : bucket_of clock next ≡ suc j) where
    fits : next < 2 ^ 64
    fits = let (n, time, at, due) = the_least in omega (arith, time.1, due, upto)

    -- the others stay in their buckets
    outer : AllByRecursion (λ n. InTime n × (suc j < number_at of clock n)) b.others
    outer = both InTime (λ n. suc j < number_at of clock n) b.others (all_back InTime b.first b.others times) b.outside

    same : AllByRecursion (λ n. number_at of clock n ≡ number_at of next n) b.others
    same = all_weaker (λ n. InTime n × (suc j < number_at of clock n)) (λ n. number_at of clock n ≡ number_at of next n)
        (λ n h. sym (stays clock next (of n.1.value) small fits h.0.1 (omega (arith, in_bucket, h.1)))) b.others outer

    inner : AllByRecursion (λ n. InTime n × ((number_at of clock n ≡ suc j) × (least ≤ of n.1.value))) b.first
    inner = both InTime (λ n. (number_at of clock n ≡ suc j) × (least ≤ of n.1.value)) b.first (all_front InTime b.first b.others times) b.inside

    pub opened : get_or new (suc j) None ≡ None → ((i : ℕ) → (i ≡ suc j → ⊥) → get_or new i None ≡ get_or ends i None) → IsSpreading (number_at of next) new c j [] b.first b.others
    opened cleared stay = record {
      parts = b.parts;
      kept = record {
        ascends = same_ascends (number_at of clock) (number_at of next) b.others same (ascends_back (number_at of clock) b.first b.others (subst (AscendsBy (number_at of clock)) b.parts timed.kept.ascends));
        last = λ i within. elim (cases_eq i (suc j)) [
          | inl is ↦
              ap (λ m. get_or new m None) is ∙ cleared
              ∙ sym (ap last_spot (sym (same_row (number_at of clock) (number_at of next) i b.others same) ∙ row_below (number_at of clock) i b.others (subst (λ m. AllByRecursion (λ n. m < number_at of clock n) b.others) (sym is) b.outside)))
          | inr other ↦
              stay i other ∙ timed.kept.last i within ∙ ap (λ l. last_spot (row (number_at of clock) i l)) b.parts
              ∙ ap last_spot (row_two (number_at of clock) i b.first b.others ∙ ap (λ l. l ++ row (number_at of clock) i b.others) (row_none (number_at of clock) i b.first (all_weaker (λ n. (number_at of clock n ≡ suc j) × (least ≤ of n.1.value)) (λ n. number_at of clock n ≡ i → ⊥) (λ n h is. other (sym is ∙ h.0)) b.first b.inside)) ∙ same_row (number_at of clock) (number_at of next) i b.others same)
        ];
      };
      low = all_weaker (λ n. InTime n × ((number_at of clock n ≡ suc j) × (least ≤ of n.1.value))) (λ n. number_at of next n ≤ j)
          (λ n h. falls j clock next (of n.1.value) small fits h.0.1 from (omega (arith, upto, h.1.1)) in_bucket h.1.0) b.first inner;
      high = all_weaker (λ n. InTime n × (suc j < number_at of clock n)) (λ n. j < number_at of next n)
          (λ n h. omega (arith, h.1, stays clock next (of n.1.value) small fits h.0.1 (omega (arith, in_bucket, h.1)))) b.others outer;
    }

    abbrev InLater : Ptr × Element X → Type 0
    InLater n = (next ≤ of n.1.value) × (of n.1.value < 2 ^ 64)

    passed : AllByRecursion InLater b.first
    passed = all_weaker (λ n. InTime n × ((number_at of clock n ≡ suc j) × (least ≤ of n.1.value))) InLater (λ n h. (omega (arith, upto, h.1.1), h.0.1)) b.first inner

    -- none of the others is due by then
    beyond : AllByRecursion (λ n. next < of n.1.value) b.others
    beyond = all_weaker (λ n. InTime n × (suc j < number_at of clock n)) (λ n. next < of n.1.value)
        (λ n h. earlier clock next (of n.1.value) small fits h.0.1 h.0.0 (omega (arith, in_bucket, h.1))) b.others outer

    pub advanced : (last : List (Option Ptr)) (d done : Nodes X) → IsSpreading (number_at of next) last d j done [] b.others → IsPermutation b.first done → IsTimed of next last d
    advanced last d done s moved = record {
      kept = subst (IsKept (number_at of next) last) (sym s.parts) s.kept;
      times = subst (AllByRecursion InLater) (sym s.parts) (all_append InLater done b.others
          (permuted InLater b.first done moved passed)
          (all_weaker (λ n. InTime n × (suc j < number_at of clock n)) InLater
          (λ n h. (omega (arith, earlier clock next (of n.1.value) small fits h.0.1 h.0.0 (omega (arith, in_bucket, h.1))), h.0.1)) b.others outer));
    }

    -- the first is due at the clock, if that is the least time
    none_due : next ≡ least → (xs : Nodes X) → AllByRecursion (λ n. zero < number_at of next n) xs → IsPermutation b.first xs → ⊥
    none_due meets xs h moved =
        let (before, e, after, is, due, over) = b.reached in let n : Ptr × Element X = (p, e) in
        let all = permuted (λ m. zero < number_at of next m) xs b.first (IsPermutation-sym b.first xs moved) h in
        let high = at_place (λ m. zero < number_at of next m) before n after (subst (AllByRecursion (λ m. zero < number_at of next m)) is all) in
        let none = clock_itself next fits in
        omega (arith, high, ap (bucket_of next) (due ∙ sym meets), none)

    first_due : next ≡ least → (last : List (Option Ptr)) (d done : Nodes X) → IsSpreading (number_at of next) last d j done [] b.others → IsPermutation b.first done
        → (p : Ptr) × (e : Element X) × (after : Nodes X) × (d ≡ (p, e) ∷ after) × (of e.value ≡ next)
    first_due meets last d [] s moved = absurd (none_due meets [] tt moved)
    first_due meets last d (n ∷ done) s moved =
        let timed_too = advanced last d (n ∷ done) s moved in
        let time = subst (AllByRecursion InLater) s.parts timed_too.times in
        elim (cases_lt zero (number_at of next n)) [
          | inl over ↦ absurd (none_due meets (n ∷ done) (over, all_weaker (λ m. number_at of next n ≤ number_at of next m) (λ m. zero < number_at of next m) (λ m q. omega (arith, q, over)) done (all_front (λ m. number_at of next n ≤ number_at of next m) done b.others s.kept.ascends.0)) moved)
          | inr none ↦ (n.0, n.1, done ++ b.others, s.parts, sym (is_clock next (of n.1.value) fits time.0.1 (omega (arith, none))))
        ]

    -- or none is due by then
    later_all : next < least → (last : List (Option Ptr)) (d done : Nodes X) → IsSpreading (number_at of next) last d j done [] b.others → IsPermutation b.first done → AreLater of next d
    later_all less last d done s moved =
        subst (AllByRecursion (λ n. next < of n.1.value)) (sym s.parts) (all_append (λ n. next < of n.1.value) done b.others
        (permuted (λ n. next < of n.1.value) b.first done moved (all_weaker (λ n. (number_at of clock n ≡ suc j) × (least ≤ of n.1.value)) (λ n. next < of n.1.value) (λ n h. omega (arith, less, h.1)) b.first b.inside))
        beyond)

    pub reached_by : (until : ℕ) → next ≡ min least until → (last : List (Option Ptr)) (d done : Nodes X) → IsSpreading (number_at of next) last d j done [] b.others → IsPermutation b.first done → IsAdvanced of next until d
    reached_by until is last d done s moved = elim (cases_lt until least) [
      | inl less ↦
          let only : next ≡ until = omega (arith, less, is) in
          inr (only, subst (λ m. AreLater of m d) only (later_all (omega (arith, only, less)) last d done s moved))
      | inr more ↦ inl (first_due (omega (arith, more, is)) last d done s moved)
    ]

    pub still : (lt : Ptr × Element X → Ptr × Element X → Bool) (last : List (Option Ptr)) (d done : Nodes X) → IsSpreading (number_at of next) last d j done [] b.others → IsStableBy lt b.first done → IsStableBy lt c d
    still lt last d done s stable = λ z. let t = ties lt z in
        ap (filter t) s.parts ∙ filter-append t done b.others ∙ ap (λ l. l ++ filter t b.others) (stable z) ∙ sym (ap (filter t) b.parts ∙ filter-append t b.first b.others)

    pub same_nodes : (last : List (Option Ptr)) (d done : Nodes X) → IsSpreading (number_at of next) last d j done [] b.others → IsPermutation b.first done → IsPermutation c d
    same_nodes last d done s moved =
        subst (λ (l : Nodes X × Nodes X). IsPermutation l.0 l.1) (λ i. (sym b.parts i, sym s.parts i)) (IsPermutation-append_left b.others b.first done moved)

module _ {X : Type 0} (of : X → ℕ) (clock : ℕ) (ends : List (Option Ptr)) (c : Nodes X) (small : clock < 2 ^ 64) (timed : IsTimed of clock ends c) where
  -- the first is due at the clock, if its bucket is that of the clock
  pub due_already : (p : Ptr) (e : Element X) (after : Nodes X) (k : ℕ) → c ≡ (p, e) ∷ after → bucket_of clock (of e.value) ≡ k → k ≡ 0 → of e.value ≡ clock
  due_already p e after k is at none =
      let time = (subst (AllByRecursion (λ n. (clock ≤ of n.1.value) × (of n.1.value < 2 ^ 64))) is timed.times).0 in
      sym (is_clock clock (of e.value) small time.1 (at ∙ none))

  -- a time in a bucket below the first: once it is the clock, all nodes stay in their buckets, and none is due
  module _ (until : ℕ) (p : Ptr) (e : Element X) (after : Nodes X) (k : ℕ) (is : c ≡ (p, e) ∷ after) (at : bucket_of clock (of e.value) ≡ k) (below : bucket_of clock until < k) (fits : until < 2 ^ 64) where
    above : AllByRecursion (λ n. ((clock ≤ of n.1.value) × (of n.1.value < 2 ^ 64)) × (bucket_of clock until < number_at of clock n)) c
    above =
        let first : bucket_of clock until < number_at of clock (p, e) = omega (arith, at, below) in
        let ascends = (subst (AscendsBy (number_at of clock)) is timed.kept.ascends).0 in
        both (λ n. (clock ≤ of n.1.value) × (of n.1.value < 2 ^ 64)) (λ n. bucket_of clock until < number_at of clock n) c timed.times
        (subst (AllByRecursion (λ n. bucket_of clock until < number_at of clock n)) (sym is)
        (first, all_weaker (λ n. number_at of clock (p, e) ≤ number_at of clock n) (λ n. bucket_of clock until < number_at of clock n) (λ n h. omega (arith, h, first)) after ascends))

    pub unmoved_later : AreLater of until c
    unmoved_later = all_weaker (λ n. ((clock ≤ of n.1.value) × (of n.1.value < 2 ^ 64)) × (bucket_of clock until < number_at of clock n)) (λ n. until < of n.1.value)
        (λ n h. earlier clock until (of n.1.value) small fits h.0.1 h.0.0 h.1) c above

    pub unmoved_timed : IsTimed of until ends c
    unmoved_timed =
        let same = all_weaker (λ n. ((clock ≤ of n.1.value) × (of n.1.value < 2 ^ 64)) × (bucket_of clock until < number_at of clock n)) (λ n. number_at of clock n ≡ number_at of until n)
        (λ n h. sym (stays clock until (of n.1.value) small fits h.0.1 h.1)) c above in record {
          kept = record {
            ascends = same_ascends (number_at of clock) (number_at of until) c same timed.kept.ascends;
            last = λ i within. timed.kept.last i within ∙ ap last_spot (same_row (number_at of clock) (number_at of until) i c same);
          };
          times = all_weaker (λ n. ((clock ≤ of n.1.value) × (of n.1.value < 2 ^ 64)) × (bucket_of clock until < number_at of clock n)) (λ n. (until ≤ of n.1.value) × (of n.1.value < 2 ^ 64))
              (λ n h. (omega (arith, earlier clock until (of n.1.value) small fits h.0.1 h.0.0 h.1), h.0.1)) c above;
        }

  -- the first bucket, whose end is taken away: it may be spread, and what comes of that
  pub record Opened (k next len until : ℕ) : Type 0 where
    pub j : ℕ
    pub first : Nodes X
    pub others : Nodes X
    pub long : length first ≡ len
    pub due : AreDue of next first
    pub spreading : IsSpreading (number_at of next) (slice_set ends k None) c j [] first others
    pub later : clock ≤ next
    pub advanced : (last : List (Option Ptr)) (d done : Nodes X) → IsSpreading (number_at of next) last d j done [] others → IsPermutation first done → IsTimed of next last d
    pub reached : (last : List (Option Ptr)) (d done : Nodes X) → IsSpreading (number_at of next) last d j done [] others → IsPermutation first done → IsAdvanced of next until d
    pub still : (lt : Ptr × Element X → Ptr × Element X → Bool) (last : List (Option Ptr)) (d done : Nodes X) → IsSpreading (number_at of next) last d j done [] others → IsStableBy lt first done → IsStableBy lt c d
    pub same_nodes : (last : List (Option Ptr)) (d done : Nodes X) → IsSpreading (number_at of next) last d j done [] others → IsPermutation first done → IsPermutation c d

  pub opened_at : (k next least : ℕ) (p : Ptr) (len until : ℕ) → (k ≡ 0 → ⊥) → k < 65 → length ends ≡ 65 → clock ≤ until → until < 2 ^ 64 → k ≤ bucket_of clock until → next ≡ min least until → IsFirstBucket of clock k c least p len → Opened k next len until
  opened_at zero next least p len until some within long from fits high is b = absurd (some refl)
  opened_at (suc j) next least p len until some within long from fits high is b =
      let new = slice_set ends (suc j) None in
      let (since, upto, there) = reaches of clock j ends c least p len small timed b until next from fits high is in record {
        j = j;
        first = b.first;
        others = b.others;
        long = b.long;
        due = passed of clock j ends c least p len small timed b new next since upto there;
        spreading = opened of clock j ends c least p len small timed b new next since upto there (get_or-set_same ends (suc j) None None (omega (arith, within, long))) (λ i other. get_or-set_other ends (suc j) i None None other);
        later = since;
        advanced = advanced of clock j ends c least p len small timed b new next since upto there;
        reached = reached_by of clock j ends c least p len small timed b new next since upto there until is;
        still = still of clock j ends c least p len small timed b new next since upto there;
        same_nodes = same_nodes of clock j ends c least p len small timed b new next since upto there;
      }

-- where no node is, the clock may be at any time
pub none_timed : {X : Type 0} (of : X → ℕ) (clock until : ℕ) (ends : List (Option Ptr)) (c : Nodes X) → c ≡ [] → IsTimed of clock ends c → IsTimed of until ends c
none_timed of clock until ends [] is timed = record { kept = record { ascends = tt; last = timed.kept.last }; times = tt }
none_timed of clock until ends (n ∷ c) is timed = absurd cc
