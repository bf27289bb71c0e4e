-- What two workers did, by what the calls of their parties promise.
use Rattle.std.proofs.Common.{◌≡◌, ℕ, suc, ◌+◌, ◌<◌, List, [], ◌∷◌, ◌++◌, ◌&&◌, length, map, reverse, replicate, Bool, true, false, Result, Ok, Err, refl, sym, ap, ◌∙◌, subst, arith, append_assoc, append-nil}
use Rattle.std.proofs.lemmas.List.{append_cancel_left, length-append}
use Rattle.std.specs.Result.{is_ok, MatchResult}
use Rattle.std.proofs.lemmas.List.Sorted.{IsPermutation-map, IsPermutation-reverse, IsPermutation-trans, length_permutation}
use Rattle.std.specs.List.Sorted.{IsPermutation, IsSorted}
use Rattle.std.specs.Ordering.{nat_cmp}
use Rattle.cordyceps_base.specs.Element.{Element}
use Rattle.cordyceps_shared.specs.Histories.{plain, own, AllOwn}
use Rattle.cordyceps_shared.specs.Interleaving.{Interleaves}
use Rattle.cordyceps_shared.specs.Knowing.{Foreign, without_marks, merge_marks, IsPrefixOf}
use Rattle.cordyceps_shared.specs.Shares.{Name, first_name, whole, keeps_half, gives_half, join_shares}
use Rattle.cordyceps_shared.specs.Standings.{name_of, keeping, giving, Absorbs}
use Rattle.cordyceps_shared.proofs.Adding.{none_else, adds_then, plain_append, plain_unmarked, plain_own, tail_own, whole_adds}
use Rattle.cordyceps_shared.proofs.Interleaving.{interleaved_permutes}
use Rattle.cordyceps_commands.specs.declared.item.Item.{Item}
use Rattle.cordyceps_stack.specs.History.{Event, Load, Push, Taken, pushes, held, Legal, actor}
use Rattle.cordyceps_stack.specs.Shared.Calls.{PartyOf, Adds, PushesAt, Takes}
use Rattle.cordyceps_stack.proofs.Histories.{held_from-append}
use Rattle.replay_sharing.specs.Sharing.{item, Works, Leaves, IsReady, Shared, NoBatch}
use Rattle.replay_sharing.proofs.InOrder.{sorted_as}
use Rattle.cordyceps_shared.proofs.Acting.{merged_since}
use Rattle.replay_sharing.proofs.Sharing.{Every, Other, pushed_by_both, none_taken, held_since, none_append, pushes_append, tries_take_nothing, tries_push_once}

abbrev Party : Type 0
Party = PartyOf (Element Item)

abbrev Pushed : Element Item → Party → Party → Type 0
Pushed e u v = (tries : ℕ) × (first : Bool) × PushesAt (suc tries) e first u v

pub works : (a b : Element Item) (u v w : Party) → (u.rooms ≡ 2) → Pushed a u v → Pushed b v w → Works a b u w
works a b u v w two p q =
    let es = replicate (suc p.0) (Load (name_of u)) ++ Push (name_of u) a ∷ [] in
    let fs = replicate (suc q.0) (Load (name_of v)) ++ Push (name_of v) b ∷ [] in
    record {
      events = es ++ fs;
      adds = adds_then actor (λ h. Legal h) u v w es fs p.2.0 q.2.0;
      none = none_append es fs (tries_take_nothing (suc p.0) (name_of u) a) (tries_take_nothing (suc q.0) (name_of v) b);
      pushed = pushes_append es fs ∙ (λ i. tries_push_once (suc p.0) (name_of u) a i ++ tries_push_once (suc q.0) (name_of v) b i);
      rooms = omega (arith, two, p.2.2, q.2.2);
    }

-- ---- the items of `share`
abbrev tens : List (Element Item)
tens = item 10 ∷ item 11 ∷ []

abbrev twenties : List (Element Item)
twenties = item 20 ∷ item 21 ∷ []

abbrev IsTen : Element Item → Type 0
IsTen e = e.id < 15

-- all that was taken, in order
in_order : (events : List (Event Name (Element Item))) (taken : List (Element Item)) (values : List ℕ) → Interleaves tens twenties (pushes events)
    → taken ≡ reverse (pushes events) → IsPermutation (map (λ e. e.value.value) taken) values → IsSorted nat_cmp values → values ≡ 10 ∷ 11 ∷ 20 ∷ 21 ∷ []
in_order events taken values both is same sorted =
    let all = item 10 ∷ item 11 ∷ item 20 ∷ item 21 ∷ [] in
    let pushed = interleaved_permutes tens twenties (pushes events) both in
    let out : IsPermutation all taken = subst (λ z. IsPermutation all z) (sym is) (IsPermutation-trans all (pushes events) (reverse (pushes events)) pushed (IsPermutation-reverse (pushes events))) in
    sorted_as (10 ∷ 11 ∷ 20 ∷ 21 ∷ []) (map (λ e. e.value.value) taken) values
    ((omega arith, (omega arith, (omega arith, _))), ((omega arith, (omega arith, _)), ((omega arith, _), (_, _))))
    (IsPermutation-map (λ (e : Element Item). e.value.value) all taken out) same sorted

-- ---- what each worker leaves
-- its party, which was u, pushed these, and took nothing
pub record Went (xs : List (Element Item)) (u w : Party) : Type 0 where
  pub rest : List (Bool × Event Name (Element Item))
  pub is : w.seen ≡ u.seen ++ rest
  pub pushed : pushes (own rest) ≡ xs
  pub none : NoBatch (own rest)
  pub share : w.share ≡ u.share
  pub rooms : w.rooms + length xs ≡ u.rooms

-- what a worker pushed that was called off, or was not
abbrev pub both_if : Element Item → Element Item → Bool → List (Element Item)
both_if a b true = a ∷ b ∷ []
both_if a b false = []

pub went : (a b : Element Item) (u w : Party) (back : Result Party Party) → u.rooms ≡ 2 → Leaves a b u back → MatchResult back (λ p. w ≡ p) (λ p. w ≡ p) → Went (both_if a b (is_ok back)) u w
went a b u w (Ok p) two l is =
    subst (λ z. Went (a ∷ b ∷ []) u z) (sym is) (record {
      rest = l.adds.0.rest;
      is = l.adds.0.is;
      pushed = ap (λ z. pushes z) l.adds.0.adds ∙ l.pushed;
      none = subst (λ z. NoBatch z) (sym l.adds.0.adds) l.none;
      share = l.adds.0.share;
      rooms = omega (arith, two, l.rooms);
    })
went a b u w (Err p) two l is =
    subst (λ z. Went [] u z) (sym (is ∙ l)) (record { rest = []; is = sym (append-nil u.seen); pushed = refl; none = tt; share = refl; rooms = omega arith })

abbrev pub tens_if : Bool → List (Element Item)
tens_if b = both_if (item 10) (item 11) b

abbrev pub twenties_if : Bool → List (Element Item)
twenties_if c = both_if (item 20) (item 21) c

all_tens : (b : Bool) → Every IsTen (tens_if b)
all_tens true = (omega arith, (omega arith, _))
all_tens false = tt

no_tens : (c : Bool) → Every (Other IsTen) (twenties_if c)
no_tens true = ((λ few. absurd (omega (arith, few))), ((λ few. absurd (omega (arith, few))), _))
no_tens false = tt

both_true : (b c : Bool) → (b && c) ≡ true → (b ≡ true) × (c ≡ true)
both_true true true e = (refl, refl)
both_true true false e = absurd (cc)
both_true false c e = absurd (cc)

-- ---- a whole party that was split in three, and absorbed both parts once each worker had worked or was called off
module _ (b c : Bool) (u first second v w : Party) (one : Went (tens_if b) (giving 2 u) first) (two : Went (twenties_if c) (giving 2 (keeping 2 u)) second)
    (x : Absorbs (λ h. Legal h) (keeping 2 (keeping 2 u)) first v) (y : Absorbs (λ h. Legal h) v second w) (start : IsReady u) where
  -- what each worker saw since it was split off
  r : List (Bool × Event Name (Element Item))
  r = one.rest

  s : List (Bool × Event Name (Element Item))
  s = two.rest

  seen_first : v.seen ≡ u.seen ++ r
  unfolding r
  seen_first = x.seen ∙ (ap (λ z. merge_marks u.seen z) one.is ∙ (ap (λ z. merge_marks z (without_marks u.seen ++ r)) (sym (append-nil u.seen)) ∙ merged_since u.seen [] r))

  seen_both : w.seen ≡ u.seen ++ merge_marks r s
  unfolding r s
  seen_both = y.seen ∙ ((λ i. merge_marks (seen_first i) (two.is i)) ∙ merged_since u.seen r s)

  -- the party is whole again
  again : w.share ≡ whole
  again =
      let one_has : first.share ≡ gives_half whole = one.share ∙ ap gives_half start.whole in
      let two_has : second.share ≡ gives_half (keeps_half whole) = two.share ∙ ap (λ z. gives_half (keeps_half z)) start.whole in
      let kept : v.share ≡ join_shares (keeps_half (keeps_half whole)) (gives_half whole) = x.share ∙ (λ i. join_shares (keeps_half (keeps_half (start.whole i))) (one_has i)) in
      y.share ∙ (λ i. join_shares (kept i) (two_has i))

  own_all : AllOwn (merge_marks r s)
  own_all = tail_own u.seen (merge_marks r s) (subst (λ z. AllOwn z) seen_both (y.alone again))

  prefix : IsPrefixOf (plain s) (plain (merge_marks r s))
  unfolding s
  prefix =
      let seen : plain w.seen ≡ plain u.seen ++ plain (merge_marks r s) = ap (λ z. plain z) seen_both ∙ plain_append u.seen (merge_marks r s) in
      let their : plain second.seen ≡ plain u.seen ++ plain s = ap (λ z. plain z) two.is ∙ (plain_append (without_marks u.seen) s ∙ ap (λ z. z ++ plain s) (plain_unmarked u.seen)) in (
        y.theirs.0,
        append_cancel_left (plain u.seen) (plain (merge_marks r s)) (plain s ++ y.theirs.0)
            (sym seen ∙ (y.theirs.1 ∙ (ap (λ z. z ++ y.theirs.0) their ∙ append_assoc (plain u.seen) (plain s) y.theirs.0))),
      )

  first_pushed : pushes (own r) ≡ tens_if b
  unfolding r
  first_pushed = one.pushed

  second_pushed : pushes (own s) ≡ twenties_if c
  unfolding s
  second_pushed = two.pushed

  both_pushed : Interleaves (tens_if b) (twenties_if c) (pushes (plain (merge_marks r s)))
  both_pushed = subst (λ (z : List (Element Item) × List (Element Item)). Interleaves z.0 z.1 (pushes (plain (merge_marks r s)))) (λ i. (first_pushed i, second_pushed i))
      (pushed_by_both IsTen r s prefix.0 own_all prefix.1 (subst (λ z. Every IsTen z) (sym first_pushed) (all_tens b))
      (subst (λ z. Every (Other IsTen) z) (sym second_pushed) (no_tens c)))

  gains : Adds u (plain (merge_marks r s)) w
  gains = (
    record { rest = merge_marks r s; is = seen_both; adds = sym (plain_own (merge_marks r s) own_all); foreign = subst (λ z. Foreign actor u.share z) (sym (none_else (merge_marks r s) own_all)) tt; legal = y.legal; share = again ∙ sym start.whole; alone = y.alone },
    y.table ∙ x.table,
  )

  none_took : NoBatch (plain (merge_marks r s))
  unfolding r s
  none_took = none_taken r s prefix.0 own_all prefix.1 one.none two.none

  -- ---- and then took all that was held
  module _ (t : Party) (batch : List (Element Item)) (z : Takes batch w t) where
    took_pushed : batch ≡ reverse (pushes (plain (merge_marks r s)))
    took_pushed =
        let holds : held (plain w.seen) ≡ pushes (plain (merge_marks r s)) =
        ap (λ k. held (plain k)) seen_both ∙ (ap (λ k. held k) (plain_append u.seen (merge_marks r s)) ∙ held_since (plain u.seen) (plain (merge_marks r s)) start.empty none_took) in
        z.0.0.legal (plain w.seen) [] (name_of w) batch (whole_adds actor (λ h. Legal h) w t (Taken (name_of w) batch ∷ []) again z.0) ∙ ap (λ k. reverse k) holds

    gains_all : Adds u (plain (merge_marks r s) ++ Taken (name_of u) (reverse (pushes (plain (merge_marks r s)))) ∷ []) t
    gains_all =
        let same : Taken (name_of w) batch ≡ Taken (name_of u) (reverse (pushes (plain (merge_marks r s)))) = λ i. Taken (first_name ((again ∙ sym start.whole) i)) (took_pushed i) in
        adds_then actor (λ h. Legal h) u w t (plain (merge_marks r s)) (Taken (name_of u) (reverse (pushes (plain (merge_marks r s)))) ∷ []) gains (subst (λ k. Adds w (k ∷ []) t) same z.0)

    rooms_again : t.rooms ≡ 4
    rooms_again =
        let many : length batch ≡ length (tens_if b) + length (twenties_if c) = ap (λ k. length k) took_pushed ∙ (length_permutation (pushes (plain (merge_marks r s))) _ (IsPermutation-reverse (pushes (plain (merge_marks r s))))
        ∙ (length_permutation (tens_if b ++ twenties_if c) _ (interleaved_permutes (tens_if b) (twenties_if c) _ both_pushed) ∙ length-append (tens_if b) (twenties_if c))) in
        omega (arith, z.1, many, x.rooms, y.rooms, one.rooms, two.rooms, start.rooms)

    -- another call may begin
    pub ready : IsReady t
    ready = record {
      whole = z.0.0.share ∙ again;
      rooms = rooms_again;
      empty = ap (λ k. held k) (whole_adds actor (λ h. Legal h) w t (Taken (name_of w) batch ∷ []) again z.0) ∙ held_from-append [] (plain w.seen) (Taken (name_of w) batch ∷ []);
    }

    pub shared : (b && c) ≡ true → (values : List ℕ) → IsPermutation (map (λ e. e.value.value) batch) values → IsSorted nat_cmp values → Shared u t values
    shared worked values same sorted =
        let pushed = subst (λ (k : Bool × Bool). Interleaves (tens_if k.0) (twenties_if k.1) (pushes (plain (merge_marks r s)))) (λ i. ((both_true b c worked).0 i, (both_true b c worked).1 i)) both_pushed in
        record {
          events = plain (merge_marks r s);
          adds = gains_all;
          none = none_took;
          pushed = pushed;
          rooms = rooms_again ∙ sym start.rooms;
          answer = in_order (plain (merge_marks r s)) batch values pushed took_pushed same sorted;
        }

-- both parties came back, and were absorbed
pub record Returned (u w : Party) (b c : Bool) : Type 0 where
  pub first : Party
  pub second : Party
  pub between : Party
  pub one : Went (tens_if b) (giving 2 u) first
  pub two : Went (twenties_if c) (giving 2 (keeping 2 u)) second
  pub absorbed : Absorbs (λ h. Legal h) (keeping 2 (keeping 2 u)) first between
  pub absorbed_too : Absorbs (λ h. Legal h) between second w

abbrev Is : Party → Result Party Party → Type 0
Is p back = MatchResult back (λ q. p ≡ q) (λ q. p ≡ q)

pub returned : (a1 a2 b1 b2 : Element Item) (u m p n q first v second w : Party) (back other : Result Party Party) → a1 ≡ item 10 → a2 ≡ item 11 → b1 ≡ item 20 → b2 ≡ item 21
    → (m ≡ keeping 2 u) × (p ≡ giving 2 u) → (n ≡ keeping 2 m) × (q ≡ giving 2 m) → Leaves a1 a2 p back → Leaves b1 b2 q other → Is first back → Is second other
    → Absorbs (λ h. Legal h) n first v → Absorbs (λ h. Legal h) v second w → Returned u w (is_ok back) (is_ok other)
returned a1 a2 b1 b2 u m p n q first v second w back other ten eleven twenty more split again l k is too x y = record {
  first = first;
  second = second;
  between = v;
  one = went (item 10) (item 11) (giving 2 u) first back refl (subst (λ (z : Element Item × (Element Item × Party)). Leaves z.0 z.1.0 z.1.1 back) (λ i. (ten i, (eleven i, split.1 i))) l) is;
  two = went (item 20) (item 21) (giving 2 (keeping 2 u)) second other refl
      (subst (λ (z : Element Item × (Element Item × Party)). Leaves z.0 z.1.0 z.1.1 other) (λ i. (twenty i, (more i, (again.1 ∙ ap (λ (z : Party). giving 2 z) split.0) i))) k) too;
  absorbed = subst (λ (z : Party). Absorbs (λ h. Legal h) z first v) (again.0 ∙ ap (λ (z : Party). keeping 2 z) split.0) x;
  absorbed_too = y;
}

module _ (u w t : Party) (b c : Bool) (r : Returned u w b c) (start : IsReady u) (batch : List (Element Item)) (z : Takes batch w t) where
  pub ready_then : (t.table ≡ u.table) × IsReady t
  ready_then = (z.0.1 ∙ (r.absorbed_too.table ∙ r.absorbed.table), ready b c u r.first r.second r.between w r.one r.two r.absorbed r.absorbed_too start t batch z)

  pub shared_then : (b && c) ≡ true → (values : List ℕ) → IsPermutation (map (λ e. e.value.value) batch) values → IsSorted nat_cmp values → Shared u t values
  shared_then worked values same sorted = shared b c u r.first r.second r.between w r.one r.two r.absorbed r.absorbed_too start t batch z worked values same sorted
