-- The pool of a transfer stack's table: a party takes it, and gives rooms back to it.
use Rattle.std.proofs.Common.{◌≡◌, ◌≢◌, ◌⊎◌, ℕ, suc, ◌+◌, ◌≤◌, ◌<◌, List, [], ◌∷◌, ◌++◌, length, set, take, drop, eqb, refl, sym, ap, ◌∙◌, subst, inl, inr, ⊎_elim, arith, append-nil, eq-eqb, ne_eqb, length-set, length-append, take-append-drop}
use Rattle.std.proofs.lemmas.List.{length-map, length-reverse}
use mathlib.Core.Option.{some, none}
use mathlib.Core.Logic.{dite}
use native.Mathlib.Decide.{ℕ_discrete}
use lib.ListN.{get_elem?}
use prog.Atomic.{either}
use Rattle.atomic_table.specs.Table.{step, keeps, stepped, homes_after, Allows}
use Rattle.atomic_table.proofs.Lists.{set_here}
use Rattle.cordyceps_shared.specs.FreeChains.{FreeChain, first_rooms, rest_rooms}
use Rattle.cordyceps_shared.specs.Counts.{one_if, times}
use Rattle.cordyceps_shared.specs.Histories.{events, with_marks, plain}
use Rattle.cordyceps_shared.specs.Knowing.{SharesDisjoint, AllAgree}
use Rattle.cordyceps_shared.specs.Pools.{Packs, LeadsTo}
use Rattle.cordyceps_shared.specs.Shares.{whole}
use Rattle.cordyceps_shared.specs.Words as word
use Rattle.cordyceps_shared.specs.declared.layout.TheConstants.{POOL}
use Rattle.cordyceps_shared.proofs.ChangedItems.{one_set}
use Rattle.cordyceps_shared.proofs.Counting.{tally_set, tally_only, tally_one, tally_append, tally_cut}
use Rattle.cordyceps_shared.proofs.Places.{times_some}
use Rattle.cordyceps_shared.proofs.Pools.{not_null, none_in_pool, some_in_pool}
use Rattle.cordyceps_shared.proofs.HistoryMarks.{plain_marked}
use Rattle.cordyceps_shared.proofs.StepEvents.{at_length, owned_same, fits_same, only_share, whole_saw}
use Rattle.cordyceps_shared.proofs.TrackRooms.{with_its_last}
use Rattle.cordyceps_shared.proofs.Words.{pool_set, head_beside_pool}
use Rattle.cordyceps_stack.specs.History.{Event, held, actor}
use Rattle.cordyceps_stack.specs.Shared.Slots.{Homes, Hand, vacant, rooms_of, in_use, all_vacant, AtHome}
use Rattle.cordyceps_stack.specs.Shared.View.{Doing, Idle, Holding, View, knows, held_rooms, count_with_party, room_count}
use Rattle.cordyceps_stack.specs.Shared.Words.{AtDoing}
use Rattle.cordyceps_stack.specs.Shared.Rule.{TableState, RuleHolds}
use Rattle.cordyceps_stack.specs.Shared.Plays.{SeatState, HasRefilled, FindsPool}
use Rattle.cordyceps_stack.specs.Shared.Plays as play
use Rattle.cordyceps_stack.proofs.SharedTheory.SlotMoves.{rooms_in_use, rooms_vacant, vacant_append, vacant_cut, home_frame, home_front, home_back, home_near, take_all, untaken, taken_valid, taken_carried, taken_long}
use Rattle.cordyceps_stack.proofs.SharedTheory.StepsKeep.{Passes, view_after, told, few_rooms}
use Rattle.cordyceps_stack.proofs.SharedTheory.WordsKeep.{deals}

-- ---- what a whole party knows of the pool
module _ {E : Type 0} where
  -- rooms that are in the pool are neither its own nor in use
  lacks : (s : TableState E) (k : RuleHolds s) (id : ℕ) (v : View E) → get_elem? s.views id ≡ some v → word.pool s.words ≢ 0 → v.known.share ≡ whole → length (held (plain v.known.seen)) + room_count v < length s.homes
  lacks s k id v at some_of is =
      let all = k.all in
      let one = tally_one (room_count {E = E}) s.views id v at in
      let seen = ap (λ (l : List (Event _ E)). length (held l)) (whole_saw actor knows s.views k.history id v k.owned k.fits at is) in
      let long = ap (λ (l : List E). length l) k.meets.holds in
      let back = length-reverse (held (events k.history)) in
      let elements = length-map k.chain (λ x. x.1) in
      let p = some_in_pool (word.pool s.words) k.pool k.word_is some_of in
      let count = p.tracks.count in
      let more = p.some_of in
      omega arith

  -- ---- what a step on the pool's word keeps
  pub record MovesRooms (s : TableState E) (k : RuleHolds s) (j : ℕ) (v w : View E) (homes : Homes E) (n : ℕ) (pool : FreeChain) : Type 0 where
    pub at : get_elem? s.views j ≡ some v
    pub counts : (r : ℕ) → times r pool.rooms + count_with_party r w ≤ times r k.pool.rooms + count_with_party r v
    pub idle : (w.doing ≡ Idle) ⊎ ((rooms : List ℕ) × (w.doing ≡ Holding rooms))
    pub full : AtHome homes (in_use k.chain)
    pub free : AtHome homes (all_vacant w.free.rooms w.free.end)
    pub others : (i : ℕ) (u : View E) (r : ℕ) → i ≢ j → get_elem? s.views i ≡ some u → 1 ≤ times r u.free.rooms → get_elem? homes r ≡ get_elem? s.homes r
    pub pooled : AtHome homes (all_vacant pool.rooms pool.end)
    pub word_is : LeadsTo n pool
    pub deep : length homes ≡ length s.homes
    pub even : length pool.rooms + room_count w ≡ length k.pool.rooms + room_count v
    pub spent : w.known.share ≡ [] → room_count w ≡ 0
    pub fits : AllAgree actor knows (set s.views j w) k.history
    pub owned : SharesDisjoint knows (set s.views j w) k.history

  pub moved : (s : TableState E) (k : RuleHolds s) (j : ℕ) (v w : View E) (homes : Homes E) (n : ℕ) (pool : FreeChain) → MovesRooms s k j v w homes n pool
      → RuleHolds record { words = set s.words POOL n; homes = homes; views = set s.views j w }
  moved s k j v w homes n pool m =
      let words = set s.words POOL n in
      let wide = k.wide in record {
        history = k.history;
        chain = k.chain;
        pool = pool;
        meets = deals k.pool.rooms s.words words k.chain pool.rooms s.views k.history j v w k.meets m.at (head_beside_pool s.words n) m.counts
            (⊎_elim (λ e. subst (λ (d : Doing E). AtDoing words k.history j d) (sym e) tt) (λ t. subst (λ (d : Doing E). AtDoing words k.history j d) (sym t.1) tt) m.idle);
        wide = length-set s.words POOL n ∙ k.wide;
        full = m.full;
        free = one_set (λ _ u. AtHome homes (all_vacant u.free.rooms u.free.end)) s.views j w m.free
            (λ i u ne e. home_frame s.homes homes (all_vacant u.free.rooms u.free.end) (λ r t. m.others i u r ne e (subst (λ l. 1 ≤ times r l) (rooms_vacant E u.free.rooms u.free.end) t)) (k.free i u e));
        pooled = m.pooled;
        word_is = subst (λ x. LeadsTo x pool) (sym (pool_set s.words n (omega arith))) m.word_is;
        all = let all = k.all in let even = m.even in let deep = m.deep in omega (arith, tally_set (room_count {E = E}) s.views j v w m.at);
        spent = one_set (λ _ u. u.known.share ≡ [] → room_count u ≡ 0) s.views j w m.spent (λ i u _ e. k.spent i u e);
        fits = m.fits;
        owned = m.owned;
      }

  -- ---- a swap
  length_held : (s : TableState E) (k : RuleHolds s) (id : ℕ) → length (held (plain (with_marks id k.history))) ≡ length k.chain
  length_held s k id =
      let same = ap (λ (l : List (Event _ E)). length (held l)) (plain_marked id k.history) in
      let long = ap (λ (l : List E). length l) k.meets.holds in
      let back = length-reverse (held (events k.history)) in
      let elements = length-map k.chain (λ x. x.1) in omega arith

  -- once the pool is empty, each room is with a whole party, or holds an element
  all_with : (s : TableState E) (k : RuleHolds s) (id : ℕ) (v w : View E) (homes : Homes E) (n : ℕ) (pool : FreeChain) → MovesRooms s k id v w homes n pool → w.known.share ≡ whole → pool.rooms ≡ []
      → length k.chain + room_count w ≡ length s.homes
  all_with s k id v w homes n pool m is no_room =
      let views = set s.views id w in
      let here = set_here s.views id w (at_length s.views id v m.at) in
      let only = tally_only (room_count {E = E}) views id w here
      (λ i u ne e. one_set (λ _ z. z.known.share ≡ [] → room_count z ≡ 0) s.views id w m.spent (λ j z _ a. k.spent j z a) i u e (only_share knows views k.history id i w u m.owned here is ne e u.known.share refl)) in
      let all = k.all in
      let even = m.even in
      let empty = ap (λ (l : List ℕ). length l) no_room in
      omega (arith, tally_set (room_count {E = E}) s.views id v w m.at)

  refills_none : (slots id : ℕ) (me : SeatState E) → me.0.doing ≡ Idle → me.0.known.share ≢ [] → (s : TableState E) (k : RuleHolds s) → length s.homes ≡ slots → get_elem? s.views id ≡ some me.0
      → word.pool s.words ≡ 0 → k.pool.rooms ≡ [] → Passes s id POOL 0 me (FindsPool slots (word.pool s.words) me)
  refills_none slots id me idle named s k deep at null none_there =
      let v = me.0 in
      let w = view_after v id k.history v.free Idle in
      let t = told s k id [] v w k.history at named tt (sym (append-nil k.history)) refl k.meets.legal in
      let same : room_count w ≡ room_count v = ap (λ d. length v.free.rooms + length (held_rooms d)) (sym idle) in
      let m : MovesRooms s k id v w s.homes 0 k.pool = record {
        at = at;
        counts = λ r. let c = ap (λ d. times r (held_rooms d)) idle in omega arith;
        idle = inl refl;
        full = k.full;
        free = k.free id v at;
        others = λ _ _ _ _ _ _. refl;
        pooled = k.pooled;
        word_is = inl (refl, none_there);
        deep = refl;
        even = ap (λ n. length k.pool.rooms + n) same;
        spent = λ e. absurd (named e);
        fits = t.fits;
        owned = t.owned;
      } in record {
        view = w;
        act = keeps;
        valid = tt;
        holds = moved s k id v w s.homes 0 k.pool m;
        after = record {
          none = λ _. record { doing = refl; free = refl; hand = refl };
          some_of = λ some_of. absurd (some_of null);
          sees = t.grown;
          all = λ is. let all = all_with s k id v w s.homes 0 k.pool m is none_there in let long = length_held s k id in omega arith;
        };
      }

  refills_some : (slots id : ℕ) (me : SeatState E) → me.0.doing ≡ Idle → me.0.known.share ≢ [] → (s : TableState E) (k : RuleHolds s) → length s.homes ≡ slots → get_elem? s.views id ≡ some me.0
      → Packs (word.pool s.words) k.pool → Passes s id POOL 0 me (FindsPool slots (word.pool s.words) me)
  refills_some slots id me idle named s k deep at p =
      let v = me.0 in
      let count = p.tracks.count in
      let some_of = p.some_of in
      let (before, last, all_is) = with_its_last k.pool.rooms (omega arith) in
      let end = k.pool.end in
      let rooms = before ++ last ∷ [] in
      let w = view_after v id k.history v.free (Holding rooms) in
      let taken : Hand E = (last, vacant end) ∷ all_vacant before (suc last) in
      let home : AtHome s.homes (all_vacant before (suc last) ++ (last, vacant end) ∷ []) = subst (AtHome s.homes) (ap (λ l. all_vacant l end) all_is ∙ vacant_append E before (last ∷ []) end) k.pooled in
      let there : AtHome s.homes taken = ((home_back s.homes (all_vacant before (suc last)) ((last, vacant end) ∷ []) home).0, home_front s.homes (all_vacant before (suc last)) ((last, vacant end) ∷ []) home) in
      let own : (q : ℕ) → times q (rooms_of taken) ≡ times q k.pool.rooms = λ q.
      let a = ap (times q) (rooms_vacant E before (suc last)) in
      let b = ap (times q) all_is in
      let c = tally_append (λ z. one_if (eqb z q)) before (last ∷ []) in omega arith in
      let has : (q : ℕ) → times q rooms ≡ times q k.pool.rooms = λ q. ap (times q) (sym all_is) in
      let homes = homes_after s.homes me.1 (take_all taken) in
      let same : (q : ℕ) → times q k.pool.rooms ≡ 0 → get_elem? homes q ≡ get_elem? s.homes q = λ q none_of. untaken taken s.homes me.1 q (own q ∙ none_of) in
      let apart : (u : View E) (i q : ℕ) → get_elem? s.views i ≡ some u → 1 ≤ times q u.free.rooms → times q k.pool.rooms ≡ 0 = λ u i q e m. let few = k.meets.apart q in let one = tally_one (count_with_party {E = E} q) s.views i u e in omega arith in
      let t = told s k id [] v w k.history at named tt (sym (append-nil k.history)) refl k.meets.legal in
      let m : MovesRooms s k id v w homes 0 record { rooms = []; end = 0 } = record {
        at = at;
        counts = λ r. let c = ap (λ d. times r (held_rooms d)) idle in let h = has r in omega arith;
        idle = inr (rooms, refl);
        full = home_frame s.homes homes (in_use k.chain) (λ r a. same r (let b = subst (λ l. 1 ≤ times r l) (rooms_in_use k.chain) a in let few = k.meets.apart r in omega arith)) k.full;
        free = home_frame s.homes homes (all_vacant v.free.rooms v.free.end) (λ r a. same r (apart v id r at (subst (λ l. 1 ≤ times r l) (rooms_vacant E v.free.rooms v.free.end) a))) (k.free id v at);
        others = λ i u r ne e a. same r (apart u i r e a);
        pooled = tt;
        word_is = inl (refl, refl);
        deep = taken_long taken s.homes me.1;
        even = let a = ap (λ (l : List ℕ). length l) all_is in let c = ap (λ d. length v.free.rooms + length (held_rooms d)) idle in omega arith;
        spent = λ e. absurd (named e);
        fits = t.fits;
        owned = t.owned;
      } in record {
        view = w;
        act = take_all taken;
        valid = taken_valid taken s.homes me.1 there (λ q. let few = k.meets.apart q in let o = own q in omega arith);
        holds = moved s k id v w homes 0 record { rooms = []; end = 0 } m;
        after = record {
          none = λ e. absurd (not_null (word.pool s.words) k.pool p e);
          some_of = λ _. record {
            before = before;
            last = last;
            end = end;
            packs = subst (λ l. Packs (word.pool s.words) record { rooms = l; end = end }) all_is p;
            doing = refl;
            free = refl;
            hand = taken_carried taken me.1;
            near = λ i r a. let some_times = times_some r rooms i a in let h = has r in let o = own r in let low = home_near s.homes taken there r (omega arith) in omega arith;
          };
          sees = t.grown;
          all = λ is. let all = all_with s k id v w homes 0 record { rooms = []; end = 0 } m is refl in let long = length_held s k id in omega arith;
        };
      }

  pub refills : (slots id : ℕ) (me : SeatState E) → me.0.doing ≡ Idle → me.0.known.share ≢ [] → Allows RuleHolds slots id me POOL (λ _. 0) (play.after_refill (step slots POOL 0 0 none) me)
  refills slots id me idle named s k deep at fits =
      let p = ⊎_elim (λ t. refills_none slots id me idle named s k deep at t.0 t.1) (λ p. refills_some slots id me idle named s k deep at p) k.word_is in
      (p.view, p.act, p.valid, p.holds, p.after)

  -- ---- a compare-exchange
  gives_all : (slots id n new : ℕ) (me : SeatState E) → me.0.doing ≡ Idle → me.0.known.share ≢ [] → Packs new (first_rooms n me.0.free) → (s : TableState E) (k : RuleHolds s) → get_elem? s.views id ≡ some me.0
      → word.pool s.words ≡ 0 → RuleHolds (stepped s POOL new id me.1 (record me.0 { free = rest_rooms n me.0.free }) keeps)
  gives_all slots id n new me idle named packs s k at null =
      let v = me.0 in
      let first = first_rooms n v.free in
      let left = rest_rooms n v.free in
      let w : View E = record v { free = left } in
      let given : Hand E = all_vacant first.rooms first.end in
      let home : AtHome s.homes (given ++ all_vacant left.rooms left.end) = subst (AtHome s.homes) (vacant_cut E n v.free) (k.free id v at) in
      let none_there = none_in_pool (word.pool s.words) k.pool k.word_is null in
      moved s k id v w s.homes new first record {
        at = at;
        counts = λ r. let cut = tally_cut (λ q. one_if (eqb q r)) n v.free.rooms in omega arith;
        idle = inl idle;
        full = k.full;
        free = home_back s.homes given (all_vacant left.rooms left.end) home;
        others = λ _ _ _ _ _ _. refl;
        pooled = home_front s.homes given (all_vacant left.rooms left.end) home;
        word_is = inr packs;
        deep = refl;
        even =
            let none_of = ap (λ (l : List ℕ). length l) none_there in
            let cut = length-append (take n v.free.rooms) (drop n v.free.rooms) in
            let both = ap (λ (l : List ℕ). length l) (take-append-drop n v.free.rooms) in omega arith;
        spent = λ e. absurd (named e);
        fits = fits_same actor knows s.views k.history id v w at refl refl refl refl k.fits;
        owned = owned_same knows s.views k.history id v w at refl k.owned;
      }

  rest_given : (slots id n new : ℕ) (me : SeatState E) → me.0.doing ≡ Idle → me.0.known.share ≢ [] → Packs new (rest_rooms n me.0.free) → (s : TableState E) (k : RuleHolds s) → get_elem? s.views id ≡ some me.0
      → word.pool s.words ≡ 0 → RuleHolds (stepped s POOL new id me.1 (record me.0 { free = first_rooms n me.0.free }) keeps)
  rest_given slots id n new me idle named packs s k at null =
      let v = me.0 in
      let kept = first_rooms n v.free in
      let rest = rest_rooms n v.free in
      let w : View E = record v { free = kept } in
      let mine : Hand E = all_vacant kept.rooms kept.end in
      let home : AtHome s.homes (mine ++ all_vacant rest.rooms rest.end) = subst (AtHome s.homes) (vacant_cut E n v.free) (k.free id v at) in
      let none_there = none_in_pool (word.pool s.words) k.pool k.word_is null in
      moved s k id v w s.homes new rest record {
        at = at;
        counts = λ r. let cut = tally_cut (λ q. one_if (eqb q r)) n v.free.rooms in omega arith;
        idle = inl idle;
        full = k.full;
        free = home_front s.homes mine (all_vacant rest.rooms rest.end) home;
        others = λ _ _ _ _ _ _. refl;
        pooled = home_back s.homes mine (all_vacant rest.rooms rest.end) home;
        word_is = inr packs;
        deep = refl;
        even =
            let none_of = ap (λ (l : List ℕ). length l) none_there in
            let cut = length-append (take n v.free.rooms) (drop n v.free.rooms) in
            let both = ap (λ (l : List ℕ). length l) (take-append-drop n v.free.rooms) in omega arith;
        spent = λ e. absurd (named e);
        fits = fits_same actor knows s.views k.history id v w at refl refl refl refl k.fits;
        owned = owned_same knows s.views k.history id v w at refl k.owned;
      }

  gives_none : (id : ℕ) (me : SeatState E) → me.0.doing ≡ Idle → me.0.known.share ≢ [] → (s : TableState E) (k : RuleHolds s) → get_elem? s.views id ≡ some me.0
      → RuleHolds (stepped s POOL (word.pool s.words) id me.1 me.0 keeps)
  gives_none id me idle named s k at =
      let v = me.0 in
      moved s k id v v s.homes (word.pool s.words) k.pool record {
        at = at;
        counts = λ r. omega arith;
        idle = inl idle;
        full = k.full;
        free = k.free id v at;
        others = λ _ _ _ _ _ _. refl;
        pooled = k.pooled;
        word_is = k.word_is;
        deep = refl;
        even = refl;
        spent = λ e. absurd (named e);
        fits = fits_same actor knows s.views k.history id v v at refl refl refl refl k.fits;
        owned = owned_same knows s.views k.history id v v at refl k.owned;
      }

  -- the party is w where the pool had no room, and else as before
  exchanges : (slots id new : ℕ) (me : SeatState E) (w : View E) → me.0.doing ≡ Idle → me.0.known.share ≢ [] → ((s : TableState E) (k : RuleHolds s) → get_elem? s.views id ≡ some me.0 → word.pool s.words ≡ 0 → RuleHolds (stepped s POOL new id me.1 w keeps))
      → Allows RuleHolds slots id me POOL (λ m. either (eqb m 0) new m) (λ found k. (found ≡ 0 → (k.0 ≡ w) × (k.1 ≡ me.1)) × (found ≢ 0 → (k ≡ me) × play.LacksRooms slots me))
  exchanges slots id new me w idle named given s k deep at fits =
      let found : ℕ = word.pool s.words in
      let v = me.0 in
      dite (ℕ_discrete found 0)
      (λ null. (
        w,
        keeps,
        tt,
        subst (λ m. RuleHolds (stepped s POOL m id me.1 w keeps)) (sym (ap (λ b. either b new found) (eq-eqb found 0 null))) (given s k at null),
        (λ _. (refl, refl), λ ne. absurd (ne null)),
      ))
      (λ some_of. (
        v,
        keeps,
        tt,
        subst (λ m. RuleHolds (stepped s POOL m id me.1 v keeps)) (sym (ap (λ b. either b new found) (ne_eqb found 0 some_of))) (gives_none id me idle named s k at),
        (λ e. absurd (some_of e), λ _. (refl, λ is. subst (λ n. length (held (plain v.known.seen)) + room_count v < n) deep (lacks s k id v at some_of is))),
      ))

  pub gives : (slots id n new : ℕ) (me : SeatState E) → me.0.doing ≡ Idle → me.0.known.share ≢ [] → Packs new (first_rooms n me.0.free)
      → Allows RuleHolds slots id me POOL (λ m. either (eqb m 0) new m) (play.after_give_back n (step slots POOL 0 new none) me)
  gives slots id n new me idle named packs = exchanges slots id new me (record me.0 { free = rest_rooms n me.0.free }) idle named (gives_all slots id n new me idle named packs)

  pub gives_rest : (slots id n new : ℕ) (me : SeatState E) → me.0.doing ≡ Idle → me.0.known.share ≢ [] → Packs new (rest_rooms n me.0.free)
      → Allows RuleHolds slots id me POOL (λ m. either (eqb m 0) new m) (play.after_give_rest n (step slots POOL 0 new none) me)
  gives_rest slots id n new me idle named packs = exchanges slots id new me (record me.0 { free = first_rooms n me.0.free }) idle named (rest_given slots id n new me idle named packs)

  -- ---- a load
  pub glances : (slots id : ℕ) (me : SeatState E) → me.0.doing ≡ Idle → me.0.known.share ≢ [] → Allows RuleHolds slots id me POOL (λ n. n) (play.after_glance (step slots POOL 0 0 none) me)
  glances slots id me idle named s k deep at fits =
      let few = few_rooms s k id me.0 at in
      let v = me.0 in
      (me.0, keeps, tt, gives_none id me idle named s k at, record { same = refl; few = omega arith; lacks = λ some_of is. subst (λ n. length (held (plain v.known.seen)) + room_count v < n) deep (lacks s k id v at some_of is) })
