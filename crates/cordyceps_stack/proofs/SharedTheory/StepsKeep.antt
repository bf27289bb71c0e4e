-- Each step of a party keeps the rule of a transfer stack's table.
use Rattle.std.proofs.Common.{◌≡◌, ◌≢◌, ◌↔◌, ℕ, zero, suc, ◌+◌, ◌≤◌, ◌<◌, List, [], ◌∷◌, ◌++◌, reverse, length, set, get_or, eqb, refl, sym, ap, ◌∙◌, subst, ⊎_elim, arith, append-nil, eq-eqb, ne_eqb, length-set, length-append, take, drop, take-append-drop}
use mathlib.Core.Option.{some, none}
use mathlib.Core.Logic.{dite}
use native.Mathlib.Decide.{ℕ_discrete}
use lib.ListN.{get_elem?, length-map}
use lib.Seq.{set-get_or}
use prog.Atomic.{either}
use Rattle.atomic_table.specs.Table.{step, Act, keeps, takes, gives, stepped, homes_after, carried_after, Valid, rest, Allows}
use Rattle.atomic_table.proofs.Lists.{set_here, set_else}
use Rattle.cordyceps_shared.specs.FreeChains.{FreeChain, leads, with_last, joined, first_rooms, rest_rooms, MayJoin, IsTied}
use Rattle.cordyceps_shared.specs.Counts.{one_if, times}
use Rattle.cordyceps_shared.specs.Histories.{events, with_marks, plain, of_seat}
use Rattle.cordyceps_shared.specs.Knowing.{Known, Under, SharesDisjoint, AllAgree, all_seen}
use Rattle.cordyceps_shared.specs.Shares.{Name}
use Rattle.cordyceps_shared.specs.Pools.{LeadsTo}
use Rattle.cordyceps_shared.specs.Slots.{Near}
use Rattle.cordyceps_shared.specs.Words.{head}
use Rattle.cordyceps_shared.specs.Words as word
use Rattle.cordyceps_shared.specs.declared.layout.TheConstants.{HEAD}
use Rattle.cordyceps_shared.proofs.Choices.{first_or, rest_from}
use Rattle.cordyceps_shared.proofs.ChangedItems.{one_set}
use Rattle.cordyceps_shared.proofs.Counting.{tally_set, tally_one, tally_two, tally_append, tally_cut, one_here, distinct_few}
use Rattle.cordyceps_shared.proofs.Places.{times_some, times_at}
use Rattle.cordyceps_shared.proofs.HistoryMarks.{marked_append, plain_marked, own_without}
use Rattle.cordyceps_shared.proofs.StepEvents.{at_length, owned_same, fits_same, tells}
use Rattle.cordyceps_shared.proofs.Words.{pool_beside_head}
use Rattle.cordyceps_shared.proofs.TrackRooms.{last_same}
use Rattle.cordyceps_stack.specs.declared.shared.slot.Slot.{Slot}
use Rattle.cordyceps_stack.specs.declared.shared.slot.Slot.TheVariants.{Free, Used}
use Rattle.cordyceps_stack.specs.History.{Event, Load, Push, Taken, held, Legal, actor, SomeChange}
use Rattle.cordyceps_stack.specs.Cores.Stages.{room_elements}
use Rattle.cordyceps_stack.specs.Shared.Slots.{Homes, Hand, TableStep, start, filled, vacant, rooms_of, in_use, all_vacant, AtHome, last_link, link_of}
use Rattle.cordyceps_stack.specs.Shared.View.{Doing, Idle, Loaded, Holding, View, knows, name, taking, held_rooms, in_chain, count_with_party, room_count}
use Rattle.cordyceps_stack.specs.Shared.Words.{History, Since, AtDoing, WordsMeet}
use Rattle.cordyceps_stack.specs.Shared.Rule.{TableState, RuleHolds}
use Rattle.cordyceps_stack.specs.Shared.Plays.{SeatState, Sees, IsBegun, HasHit, HasFailed, HasSwapped, chain_in_hand}
use Rattle.cordyceps_stack.specs.Shared.Calls.{IsOvertaken}
use Rattle.cordyceps_stack.specs.Shared.Plays as play
use Rattle.cordyceps_stack.proofs.Histories.{none_from_reversed}
use Rattle.cordyceps_stack.proofs.SharedTheory.SlotMoves.{rooms_in_use, rooms_vacant, vacant_append, vacant_cut, vacant_joined, vacant_last, home_frame, home_append, home_front, home_back, home_near}
use Rattle.cordyceps_stack.proofs.SharedTheory.SlotMoves.{take_all, untaken, taken_valid, taken_carried, taken_long, give_all, ungiven, given_valid, given_carried, given_home, given_long}
use Rattle.cordyceps_stack.proofs.SharedTheory.WordsKeep.{since_now, rests, loads, pushes, takes_chain, rooms_taking}

-- the room and the word of a party that pushes
abbrev room_of : {E : Type 0} → Doing E → ℕ
room_of d = first_or 0 (held_rooms d)

abbrev read_of : {E : Type 0} → Doing E → ℕ
read_of (Loaded r read) = read
read_of d = 0

-- what is in the first slot in hand
abbrev pub slot_or : {A : Type 0} → A → List (ℕ × A) → A
slot_or d [] = d
slot_or d (x ∷ xs) = x.1

-- the element in a slot
abbrev pub element_or : {E : Type 0} → E → Slot E → E
element_or d (Free link) = d
element_or d (Used link x) = x

-- lists with one more item at the end
front_same : (xs ys : List ℕ) (x y : ℕ) → xs ++ x ∷ [] ≡ ys ++ y ∷ [] → xs ≡ ys
front_same [] [] x y e = refl
front_same [] (z ∷ []) x y e = absurd (cc)
front_same [] (z ∷ w ∷ ys) x y e = absurd (cc)
front_same (z ∷ []) [] x y e = absurd (cc)
front_same (z ∷ w ∷ xs) [] x y e = absurd (cc)
front_same (z ∷ xs) (w ∷ ys) x y e = λ i. first_or 0 (e i) ∷ front_same xs ys x y (ap rest_from e) i

pub near_one : (slots r : ℕ) → r < slots → Near slots (r ∷ [])
near_one slots r inside zero q e = subst (λ n. n < slots) (sym e) inside
near_one slots r inside (suc i) q a = absurd a

-- the room, word and element of an exchange
record Exchanged (E : Type 0) : Type 0 where
  room : ℕ
  read : ℕ
  element : E

module _ {E : Type 0} where
  start_empty : (xs : List (ℕ × E)) → (start xs ≡ 0) ↔ (room_elements xs ≡ [])
  start_empty [] = (λ _. refl, λ _. refl)
  start_empty (x ∷ xs) = (λ e. absurd (omega arith), λ e. absurd (cc))

  -- head is null exactly where nothing is held
  head_says : (chain : List (ℕ × E)) (es : List E) (read : ℕ) → read ≡ start chain → room_elements chain ≡ reverse es → (read ≡ 0) ↔ (es ≡ [])
  head_says chain es read is holds =
      let t = start_empty chain in
      (λ e. none_from_reversed es (sym holds ∙ t.0 (sym is ∙ e)), λ e. is ∙ t.1 (holds ∙ ap (λ z. reverse z) e))

  pub head_marked : (s : TableState E) (k : RuleHolds s) (id : ℕ) → (head s.words ≡ 0) ↔ (held (plain (with_marks id k.history)) ≡ [])
  head_marked s k id = subst (λ (z : List (Event Name E)). (head s.words ≡ 0) ↔ (held z ≡ [])) (sym (plain_marked id k.history))
      (head_says k.chain (held (events k.history)) (head s.words) k.meets.top k.meets.holds)

  -- ---- what a step keeps
  -- a party sees all, and adds these events
  pub record Told (views : List (View E)) (h : History E) (es : List (Event Name E)) (v w : View E) : Type 0 where
    pub owned : SharesDisjoint knows views h
    pub fits : AllAgree actor knows views h
    pub grown : Sees v es w

  pub told : (s : TableState E) (k : RuleHolds s) (j : ℕ) (es : List (Event Name E)) (v w : View E) (h : History E) → get_elem? s.views j ≡ some v → v.known.share ≢ [] → Under actor (name v) es → h ≡ k.history ++ of_seat j es
      → w.known ≡ all_seen j h v.known.share → Legal (events h) → Told (set s.views j w) h es v w
  told s k j es v w h at named under is sees legal =
      let t = tells actor knows (λ z. Legal z) s.views k.history j es v w k.owned k.fits at named under (sees ∙ ap (λ z. all_seen j z v.known.share) is) (subst (λ z. Legal (events z)) is legal) in
      record {
        owned = subst (SharesDisjoint knows (set s.views j w)) (sym is) t.owned;
        fits = subst (AllAgree actor knows (set s.views j w)) (sym is) t.fits;
        grown = t.grown;
      }

  -- what a step of the party j leaves beside the parties' own: the pool, and the number of rooms
  pub record LeavesPool (s : TableState E) (k : RuleHolds s) (j : ℕ) (v w : View E) (words : List ℕ) (homes : Homes E) (chain : List (ℕ × E)) : Type 0 where
    pub at : get_elem? s.views j ≡ some v
    pub word_is : word.pool words ≡ word.pool s.words
    pub pooled : (r : ℕ) → 1 ≤ times r k.pool.rooms → get_elem? homes r ≡ get_elem? s.homes r
    pub deep : length homes ≡ length s.homes
    pub even : length chain + room_count w ≡ length k.chain + room_count v
    pub spent : w.known.share ≡ [] → room_count w ≡ 0

  -- the rule's clauses after a step of the party j. The slots of the other parties' free rooms are as they were
  pub step_keeps : (s : TableState E) (k : RuleHolds s) (j : ℕ) (v w : View E) (words : List ℕ) (homes : Homes E) (chain : List (ℕ × E)) (h : History E)
      → LeavesPool s k j v w words homes chain
      → WordsMeet words chain k.pool.rooms (set s.views j w) h → length words ≡ length s.words → AtHome homes (in_use chain) → AtHome homes (all_vacant w.free.rooms w.free.end)
      → ((i : ℕ) (u : View E) (r : ℕ) → i ≢ j → get_elem? s.views i ≡ some u → 1 ≤ times r u.free.rooms → get_elem? homes r ≡ get_elem? s.homes r)
      → AllAgree actor knows (set s.views j w) h → SharesDisjoint knows (set s.views j w) h
      → RuleHolds record { words = words; homes = homes; views = set s.views j w }
  step_keeps s k j v w words homes chain h beside meets wide full free same fits owned = record {
    history = h;
    chain = chain;
    pool = k.pool;
    meets = meets;
    wide = wide ∙ k.wide;
    full = full;
    free = one_set (λ _ u. AtHome homes (all_vacant u.free.rooms u.free.end)) s.views j w free
        (λ i u ne e. home_frame s.homes homes (all_vacant u.free.rooms u.free.end) (λ r m. same i u r ne e (subst (λ l. 1 ≤ times r l) (rooms_vacant E u.free.rooms u.free.end) m)) (k.free i u e));
    pooled = home_frame s.homes homes (all_vacant k.pool.rooms k.pool.end) (λ r m. beside.pooled r (subst (λ l. 1 ≤ times r l) (rooms_vacant E k.pool.rooms k.pool.end) m)) k.pooled;
    word_is = subst (λ n. LeadsTo n k.pool) (sym beside.word_is) k.word_is;
    all = let all = k.all in let even = beside.even in let deep = beside.deep in omega (arith, tally_set (room_count {E = E}) s.views j v w beside.at);
    spent = one_set (λ _ u. u.known.share ≡ [] → room_count u ≡ 0) s.views j w beside.spent (λ i u _ e. k.spent i u e);
    fits = fits;
    owned = owned;
  }

  -- a step that writes nothing, takes no slot and returns none
  pub untouched : (s : TableState E) (k : RuleHolds s) (j : ℕ) (v w : View E) → get_elem? s.views j ≡ some v → room_count w ≡ room_count v → (w.known.share ≡ [] → room_count w ≡ 0) → LeavesPool s k j v w s.words s.homes k.chain
  untouched s k j v w at even spent = record { at = at; word_is = refl; pooled = λ _ _. refl; deep = refl; even = ap (λ n. length k.chain + n) even; spent = spent }

  -- a step that only reads the word i
  pub unwritten : (s : TableState E) (i : ℕ) (homes : Homes E) (views : List (View E)) → RuleHolds record { words = s.words; homes = homes; views = views } → RuleHolds record { words = set s.words i (get_or s.words i 0); homes = homes; views = views }
  unwritten s i homes views k = subst (λ (ws : List ℕ). RuleHolds record { words = ws; homes = homes; views = views }) (sym (set-get_or s.words i 0)) k

  -- ---- a room is in one place
  alone : (s : TableState E) (k : RuleHolds s) (j : ℕ) (v : View E) (r : ℕ) → get_elem? s.views j ≡ some v → 1 ≤ count_with_party r v → in_chain r k.chain ≡ 0
  alone s k j v r at one = let few = k.meets.apart r in let mine = tally_one (count_with_party r) s.views j v at in omega arith

  alone_of : (s : TableState E) (k : RuleHolds s) (j i : ℕ) (v u : View E) (r : ℕ) → get_elem? s.views j ≡ some v → i ≢ j → get_elem? s.views i ≡ some u → 1 ≤ count_with_party r u → count_with_party r v ≡ 0
  alone_of s k j i v u r at other there one = let few = k.meets.apart r in let both = tally_two (count_with_party r) s.views i j u v other there at in omega arith

  pub once : (s : TableState E) (k : RuleHolds s) (j : ℕ) (v : View E) (r : ℕ) → get_elem? s.views j ≡ some v → count_with_party r v ≤ 1
  once s k j v r at = let few = k.meets.apart r in let mine = tally_one (count_with_party r) s.views j v at in omega arith

  -- a party has at most as many free rooms as there are slots
  pub few_rooms : (s : TableState E) (k : RuleHolds s) (j : ℕ) (v : View E) → get_elem? s.views j ≡ some v → length v.free.rooms ≤ length s.homes
  few_rooms s k j v at = distinct_few (length s.homes) v.free.rooms (λ r. let o = once s k j v r at in omega arith)
      (λ r m. home_near s.homes (all_vacant v.free.rooms v.free.end) (k.free j v at) r (subst (λ l. 1 ≤ times r l) (sym (rooms_vacant E v.free.rooms v.free.end)) m))

  -- where only slots of the party j change, the chain's stay, and those of the others
  pub chain_stays : (s : TableState E) (k : RuleHolds s) (j : ℕ) (v : View E) (homes : Homes E) → get_elem? s.views j ≡ some v → ((r : ℕ) → count_with_party r v ≡ 0 → get_elem? homes r ≡ get_elem? s.homes r) → AtHome homes (in_use k.chain)
  chain_stays s k j v homes at same = home_frame s.homes homes (in_use k.chain)
      (λ r m. same r (let here = subst (λ l. 1 ≤ times r l) (rooms_in_use k.chain) m in let few = k.meets.apart r in let mine = tally_one (count_with_party r) s.views j v at in omega arith)) k.full

  pub pool_stays : (s : TableState E) (k : RuleHolds s) (j : ℕ) (v : View E) (homes : Homes E) → get_elem? s.views j ≡ some v → ((r : ℕ) → count_with_party r v ≡ 0 → get_elem? homes r ≡ get_elem? s.homes r)
      → (r : ℕ) → 1 ≤ times r k.pool.rooms → get_elem? homes r ≡ get_elem? s.homes r
  pool_stays s k j v homes at same r m = same r (let few = k.meets.apart r in let mine = tally_one (count_with_party r) s.views j v at in omega arith)

  pub others_stay : (s : TableState E) (k : RuleHolds s) (j : ℕ) (v : View E) (homes : Homes E) → get_elem? s.views j ≡ some v → ((r : ℕ) → count_with_party r v ≡ 0 → get_elem? homes r ≡ get_elem? s.homes r)
      → (i : ℕ) (u : View E) (r : ℕ) → i ≢ j → get_elem? s.views i ≡ some u → 1 ≤ times r u.free.rooms → get_elem? homes r ≡ get_elem? s.homes r
  others_stay s k j v homes at same i u r other there m = same r (alone_of s k j i v u r at other there (omega arith))

  -- a step of the party j that only reads the word i, tells nothing, and takes or returns slots of its own
  quiet : (s : TableState E) (k : RuleHolds s) (j i : ℕ) (v w : View E) (homes : Homes E) → get_elem? s.views j ≡ some v → w.known ≡ v.known → ((r : ℕ) → count_with_party r w ≤ count_with_party r v) → room_count w ≡ room_count v → length homes ≡ length s.homes → AtDoing s.words k.history j w.doing
      → AtHome homes (all_vacant w.free.rooms w.free.end) → ((r : ℕ) → count_with_party r v ≡ 0 → get_elem? homes r ≡ get_elem? s.homes r)
      → RuleHolds record { words = set s.words i (get_or s.words i 0); homes = homes; views = set s.views j w }
  quiet s k j i v w homes at known few even deep does free same =
      unwritten s i homes (set s.views j w) (step_keeps s k j v w s.words homes k.chain k.history
      record {
        at = at;
        word_is = refl;
        pooled = pool_stays s k j v homes at same;
        deep = deep;
        even = ap (λ n. length k.chain + n) even;
        spent = λ e. even ∙ k.spent j v at (sym (ap (λ (z : Known (Event Name E)). z.share) known) ∙ e);
      }
      (rests k.pool.rooms s.words k.chain s.views k.history j v w k.meets at few does) refl (chain_stays s k j v homes at same) free (others_stay s k j v homes at same)
      (fits_same actor knows s.views k.history j v w at (ap (λ (z : Known (Event Name E)). z.share) known) (ap (λ (z : Known (Event Name E)). z.seen) known) (ap (λ (z : Known (Event Name E)). z.had) known) (ap (λ (z : Known (Event Name E)). z.told) known) k.fits)
      (owned_same knows s.views k.history j v w at (ap (λ (z : Known (Event Name E)). z.share) known) k.owned))

  -- the view after a step at which the party saw all
  abbrev pub view_after : View E → ℕ → History E → FreeChain → Doing E → View E
  view_after v j h free doing = record { known = all_seen j h v.known.share; free = free; doing = doing }

  -- ---- loads of head
  pub looks : (slots id : ℕ) (me : SeatState E) → me.0.doing ≡ Idle → me.0.known.share ≢ [] → Allows RuleHolds slots id me HEAD (λ n. n) (play.after_look (step slots HEAD 0 0 none) me)
  looks slots id me idle named s k deep at fits =
      let v = me.0 in
      let x : Event Name E = Load (name v) in
      let h = k.history ++ (id, x) ∷ [] in
      let w = view_after v id h v.free Idle in
      let meets = loads k.pool.rooms s.words k.chain s.views k.history id v w (name v) k.meets at (λ q. let c = ap (λ d. times q (held_rooms d)) idle in omega arith) tt in
      let t = told s k id (x ∷ []) v w h at named (refl, tt) refl refl meets.legal in (
        w,
        keeps,
        tt,
        unwritten s HEAD s.homes (set s.views id w) (step_keeps s k id v w s.words s.homes k.chain h (untouched s k id v w at (ap (λ d. length v.free.rooms + length (held_rooms d)) (sym idle)) (λ e. absurd (named e))) meets refl k.full (k.free id v at) (λ _ _ _ _ _ _. refl) t.fits t.owned),
        record {
          doing = sym idle;
          free = refl;
          hand = refl;
          sees = t.grown;
          ends = record {
            before = with_marks id k.history;
            is = marked_append id k.history ((id, x) ∷ []) ∙ ap (λ b. with_marks id k.history ++ (b, x) ∷ []) (eq-eqb id id refl);
            none = head_marked s k id;
          };
        },
      )

  -- the word leads to no room outside of the table
  start_few : (homes : Homes E) (xs : List (ℕ × E)) → AtHome homes (in_use xs) → start xs ≤ length homes
  start_few homes [] home = omega arith
  start_few homes (x ∷ xs) home = let low = at_length homes x.0 (some (filled x.1 (start xs))) home.0 in omega arith

  pub head_few : (s : TableState E) (k : RuleHolds s) (slots : ℕ) → length s.homes ≡ slots → head s.words ≤ slots
  head_few s k slots deep =
      let low = start_few s.homes k.chain k.full in
      let top = k.meets.top in omega arith

  pub begins : (slots id : ℕ) (me : SeatState E) (r : ℕ) (rs : List ℕ) → me.0.doing ≡ Idle → me.0.free.rooms ≡ r ∷ rs → me.0.known.share ≢ [] → Allows RuleHolds slots id me HEAD (λ n. n) (play.after_begin (step slots HEAD 0 0 none) me)
  begins slots id me r rs idle free named s k deep at fits =
      let v = me.0 in
      let x : Event Name E = Load (name v) in
      let h = k.history ++ (id, x) ∷ [] in
      let read = head s.words in
      let slot : Slot E = vacant (leads rs v.free.end) in
      let w = view_after v id h record { rooms = rs; end = v.free.end } (Loaded r read) in
      let was : (q : ℕ) → count_with_party q v ≡ one_if (eqb r q) + times q rs + 0 = λ q. (λ i. times q (free i) + times q (held_rooms (idle i))) in
      let here = one_here r in
      let none_left : times r rs ≡ 0 = let e = was r in let o = once s k id v r at in omega arith in
      let homes = set s.homes r none in
      let home : AtHome s.homes ((r, slot) ∷ all_vacant rs v.free.end) = subst (λ l. AtHome s.homes (all_vacant l v.free.end)) free (k.free id v at) in
      let same : (q : ℕ) → q ≢ r → get_elem? homes q ≡ get_elem? s.homes q = λ q ne. set_else s.homes r q none ne in
      let mine : (q : ℕ) → count_with_party q v ≡ 0 → q ≢ r = λ q none_of e. let w = was r in let z : count_with_party r v ≡ 0 = subst (λ p. count_with_party p v ≡ 0) e none_of in omega arith in
      let meets = loads k.pool.rooms s.words k.chain s.views k.history id v w (name v) k.meets at (λ q. let e = was q in omega arith) (since_now s.words k.history id (name v)) in
      let t = told s k id (x ∷ []) v w h at named (refl, tt) refl refl meets.legal in (
        w,
        takes r slot,
        home.0,
        unwritten s HEAD homes (set s.views id w) (step_keeps s k id v w s.words homes k.chain h
            record {
              at = at;
              word_is = refl;
              pooled = pool_stays s k id v homes at (λ q none_of. same q (mine q none_of));
              deep = length-set s.homes r none;
              even = let long : room_count v ≡ suc (length rs) + 0 = (λ i. length (free i) + length (held_rooms (idle i))) in omega arith;
              spent = λ e. absurd (named e);
            } meets refl
            (chain_stays s k id v homes at (λ q none_of. same q (mine q none_of)))
            (home_frame s.homes homes (all_vacant rs v.free.end) (λ q m. same q (λ e. let here_too = subst (λ l. 1 ≤ times q l) (rooms_vacant E rs v.free.end) m in let z : times q rs ≡ times r rs = ap (λ p. times p rs) e in omega arith)) home.1)
            (others_stay s k id v homes at (λ q none_of. same q (mine q none_of))) t.fits t.owned),
        λ r' rs' free'.
            let both = sym free ∙ free' in
            let first = ap (first_or 0) both in
            let others = ap rest_from both in
            subst (λ (p : ℕ × List ℕ). IsBegun slots p.0 p.1 read me (w, (r, slot) ∷ me.1)) (λ i. (first i, others i)) record {
              doing = refl;
              free = refl;
              hand = refl;
              inside = let low = at_length s.homes r (some slot) home.0 in omega arith;
              few = head_few s k slots deep;
              sees = t.grown;
            },
      )

  pub loads_again : (slots id : ℕ) (me : SeatState E) (r : ℕ) → me.0.doing ≡ Holding (r ∷ []) → me.0.known.share ≢ [] → Allows RuleHolds slots id me HEAD (λ n. n) (play.after_load (step slots HEAD 0 0 none) me)
  loads_again slots id me r ready named s k deep at fits =
      let v = me.0 in
      let x : Event Name E = Load (name v) in
      let h = k.history ++ (id, x) ∷ [] in
      let read = head s.words in
      let w = view_after v id h v.free (Loaded r read) in
      let meets = loads k.pool.rooms s.words k.chain s.views k.history id v w (name v) k.meets at (λ q. let c = ap (λ d. times q (held_rooms d)) ready in omega arith) (since_now s.words k.history id (name v)) in
      let t = told s k id (x ∷ []) v w h at named (refl, tt) refl refl meets.legal in (
        w,
        keeps,
        tt,
        unwritten s HEAD s.homes (set s.views id w) (step_keeps s k id v w s.words s.homes k.chain h (untouched s k id v w at (ap (λ d. length v.free.rooms + length (held_rooms d)) (sym ready)) (λ e. absurd (named e))) meets refl k.full (k.free id v at) (λ _ _ _ _ _ _. refl) t.fits t.owned),
        λ r' ready'. record {
          doing = ap (λ p. let d : Doing E = Loaded (room_of p) read in d) (sym ready ∙ ready');
          free = refl;
          hand = refl;
          few = head_few s k slots deep;
          sees = t.grown;
        },
      )

  -- ---- an exchange of head
  -- what a party saw that loaded another head
  pub overtaken : (s : TableState E) (k : RuleHolds s) (id read : ℕ) → Since s.words k.history id read → head s.words ≢ read → IsOvertaken (with_marks id k.history)
  overtaken s k id read since miss =
      let x : Event Name E = Load since.name in record {
        before = with_marks id since.before;
        load = since.name;
        later = with_marks id since.later;
        is = ap (with_marks id) since.is ∙ (marked_append id since.before ((id, x) ∷ since.later) ∙ ap (λ b. with_marks id since.before ++ (b, x) ∷ with_marks id since.later) (eq-eqb id id refl));
        others = own_without id since.later since.none;
        changed = subst (λ z. SomeChange z) (sym (plain_marked id since.later)) (⊎_elim (λ e. absurd (miss e)) (λ c. c) since.same);
      }

  -- what a party does, and what it has in hand, at an exchange
  pub record Poised (slots : ℕ) (me : SeatState E) (r read : ℕ) (x : E) : Type 0 where
    pub doing : me.0.doing ≡ Loaded r read
    pub hand : me.1 ≡ (r, filled x read) ∷ []
    pub named : me.0.known.share ≢ []
    pub inside : r < slots

  -- a step that is allowed, after which the seat is k
  pub record Passes (s : TableState E) (id i n : ℕ) (me : SeatState E) (After : SeatState E → Type 0) : Type 0 where
    pub view : View E
    pub act : Act (Slot E)
    pub valid : Valid s.homes me.1 act
    pub holds : RuleHolds (stepped s i n id me.1 view act)
    pub after : After (view, carried_after me.1 act)

  hits : (slots id : ℕ) (me : SeatState E) (r read : ℕ) (x : E) → Poised slots me r read x → (s : TableState E) (k : RuleHolds s) → length s.homes ≡ slots → get_elem? s.views id ≡ some me.0
      → head s.words ≡ read → Passes s id HEAD (suc r) me (HasHit x (head s.words) me)
  hits slots id me r read x poised s k deep at top =
      let v = me.0 in
      let e : Event Name E = Push (name v) x in
      let h = k.history ++ (id, e) ∷ [] in
      let w = view_after v id h v.free Idle in
      let slot : Slot E = filled x read in
      let homes = set s.homes r (some slot) in
      let here = one_here r in
      let inside = poised.inside in
      let was : (q : ℕ) → count_with_party q v ≡ times q v.free.rooms + (one_if (eqb r q) + 0) = λ q. ap (λ d. times q v.free.rooms + times q (held_rooms d)) poised.doing in
      let none_free : times r v.free.rooms ≡ 0 = let c = was r in let o = once s k id v r at in omega arith in
      let mine : (q : ℕ) → count_with_party q v ≡ 0 → q ≢ r = λ q none_of same. let c = was r in let z : count_with_party r v ≡ 0 = subst (λ p. count_with_party p v ≡ 0) same none_of in omega arith in
      let same : (q : ℕ) → q ≢ r → get_elem? homes q ≡ get_elem? s.homes q = λ q ne. set_else s.homes r q (some slot) ne in
      let wide = k.wide in
      let meets = pushes k.pool.rooms s.words k.chain s.views k.history id v w r (name v) x k.meets at (ap (λ d. held_rooms d) poised.doing) refl refl (omega arith) in
      let t = told s k id (e ∷ []) v w h at poised.named (refl, tt) refl refl meets.legal in
      let below : slot ≡ filled x (start k.chain) = ap (λ n. filled x n) (sym top ∙ k.meets.top) in
      let kept = step_keeps s k id v w (set s.words HEAD (suc r)) homes ((r, x) ∷ k.chain) h
      record {
        at = at;
        word_is = pool_beside_head s.words (suc r);
        pooled = pool_stays s k id v homes at (λ q none_of. same q (mine q none_of));
        deep = length-set s.homes r (some slot);
        even = let long = ap (λ d. length v.free.rooms + length (held_rooms d)) poised.doing in omega arith;
        spent = λ e. absurd (poised.named e);
      } meets (length-set s.words HEAD (suc r))
      (set_here s.homes r (some slot) (omega arith) ∙ ap (λ z. some (some z)) below, chain_stays s k id v homes at (λ q none_of. same q (mine q none_of)))
      (home_frame s.homes homes (all_vacant v.free.rooms v.free.end) (λ q m. same q (λ e. let here_too = subst (λ l. 1 ≤ times q l) (rooms_vacant E v.free.rooms v.free.end) m in let z : times q v.free.rooms ≡ times r v.free.rooms = ap (λ p. times p v.free.rooms) e in omega arith)) (k.free id v at))
      (others_stay s k id v homes at (λ q none_of. same q (mine q none_of))) t.fits t.owned in record {
        view = w;
        act = gives;
        valid = tt;
        holds = subst (λ c. RuleHolds record { words = set s.words HEAD (suc r); homes = homes_after s.homes c gives; views = set s.views id w }) (sym poised.hand) kept;
        after = record {
          doing = refl;
          free = refl;
          hand = ap rest poised.hand;
          sees = t.grown;
          ends = record {
            before = with_marks id k.history;
            is = marked_append id k.history ((id, e) ∷ []) ∙ ap (λ b. with_marks id k.history ++ (b, e) ∷ []) (eq-eqb id id refl);
            first = head_marked s k id;
          };
        };
      }

  fails : (slots id : ℕ) (me : SeatState E) (r read : ℕ) (x : E) → Poised slots me r read x → (s : TableState E) (k : RuleHolds s) → get_elem? s.views id ≡ some me.0
      → head s.words ≢ read → Passes s id HEAD (head s.words) me (HasFailed r me)
  fails slots id me r read x poised s k at miss =
      let v = me.0 in
      let w = view_after v id k.history v.free (Holding (r ∷ [])) in
      let known : AtDoing s.words k.history id (Loaded r read) = subst (λ (d : Doing E). AtDoing s.words k.history id d) poised.doing (k.meets.each id v at) in
      let meets = rests k.pool.rooms s.words k.chain s.views k.history id v w k.meets at (λ q. let c = ap (λ d. times q (held_rooms d)) poised.doing in omega arith) tt in
      let t = told s k id [] v w k.history at poised.named tt (sym (append-nil k.history)) refl meets.legal in record {
        view = w;
        act = keeps;
        valid = tt;
        holds = unwritten s HEAD s.homes (set s.views id w) (step_keeps s k id v w s.words s.homes k.chain k.history (untouched s k id v w at (ap (λ d. length v.free.rooms + length (held_rooms d)) (sym poised.doing)) (λ e. absurd (poised.named e))) meets refl k.full (k.free id v at) (λ _ _ _ _ _ _. refl) t.fits t.owned);
        after = record {
          doing = refl;
          free = refl;
          hand = refl;
          sees = t.grown;
          overtaken = overtaken s k id read known miss;
        };
      }

  -- what the exchange tells of a party that was poised with these
  Tells : (me k : SeatState E) (found : ℕ) → Exchanged E → Type 0
  Tells me k found z = (found ≡ z.read → HasHit z.element found me k) × (found ≢ z.read → HasFailed z.room me k)

  says : (st : TableStep E) (slots : ℕ) (me k : SeatState E) (r read found : ℕ) (x : E) → Poised slots me r read x → Tells me k found record { room = r; read = read; element = x } → play.after_exchange st me found k
  unfolding Tells
  says st slots me k r read found x poised t r' read' x' doing hand =
      let p = sym poised.doing ∙ doing in
      let q = sym poised.hand ∙ hand in
      subst (Tells me k found) (λ i. record { room = ap room_of p i; read = ap read_of p i; element = ap (λ l. element_or x (slot_or (filled x read) l)) q i }) t

  pub exchanges : (slots id new : ℕ) (me : SeatState E) (r read : ℕ) (x : E) → new ≡ suc r → Poised slots me r read x
      → Allows RuleHolds slots id me HEAD (λ n. either (eqb n read) new n) (play.after_exchange (step slots HEAD read new none) me)
  unfolding Tells
  exchanges slots id new me r read x is poised s k deep at fits =
      let n : ℕ = head s.words in
      let st : TableStep E = step slots HEAD read new none in
      dite (ℕ_discrete n read)
      (λ hit. let d = hits slots id me r read x poised s k deep at hit in (
        d.view,
        d.act,
        d.valid,
        subst (λ (m : ℕ). RuleHolds (stepped s HEAD m id me.1 d.view d.act)) (sym is ∙ sym (ap (λ b. either b new n) (eq-eqb n read hit))) d.holds,
        says st slots me (d.view, carried_after me.1 d.act) r read n x poised (λ _. d.after, λ miss. absurd (miss hit)),
      ))
      (λ miss. let d = fails slots id me r read x poised s k at miss in (
        d.view,
        d.act,
        d.valid,
        subst (λ (m : ℕ). RuleHolds (stepped s HEAD m id me.1 d.view d.act)) (sym (ap (λ b. either b new n) (ne_eqb n read miss))) d.holds,
        says st slots me (d.view, carried_after me.1 d.act) r read n x poised (λ hit. absurd (miss hit), λ _. d.after),
      ))

  -- ---- a swap of head
  few_in_chain : (s : TableState E) (k : RuleHolds s) (slots : ℕ) → length s.homes ≡ slots → length k.chain ≤ slots
  few_in_chain s k slots deep =
      let few = distinct_few (length s.homes) (rooms_of k.chain) (λ r. let o = k.meets.apart r in omega arith) (λ r m. home_near s.homes (in_use k.chain) k.full r (subst (λ l. 1 ≤ times r l) (sym (rooms_in_use k.chain)) m)) in
      let long = length-map k.chain (λ x. x.0) in omega arith

  pub takes_whole : (slots id : ℕ) (me : SeatState E) → me.0.doing ≡ Idle → me.0.known.share ≢ [] → Allows RuleHolds slots id me HEAD (λ _. 0) (play.after_take (step slots HEAD 0 0 none) me)
  takes_whole slots id me idle named s k deep at fits =
      let v = me.0 in
      let xs = k.chain in
      let e : Event Name E = Taken (name v) (room_elements xs) in
      let h = k.history ++ (id, e) ∷ [] in
      let w = view_after v id h v.free (taking xs) in
      let wide = k.wide in
      let act = take_all (in_use xs) in
      let homes = homes_after s.homes me.1 act in
      let in_rooms : (r : ℕ) → times r (rooms_of (in_use xs)) ≡ in_chain r xs = λ r. ap (times r) (rooms_in_use xs) in
      let meets = takes_chain k.pool.rooms s.words xs s.views k.history id v w (name v) k.meets at idle refl refl (omega arith) in
      let t = told s k id (e ∷ []) v w h at named (refl, tt) refl refl meets.legal in
      let stays : (u : View E) (i q : ℕ) → get_elem? s.views i ≡ some u → 1 ≤ times q u.free.rooms → get_elem? homes q ≡ get_elem? s.homes q =
      λ u i q there m. untaken (in_use xs) s.homes me.1 q (in_rooms q ∙ alone s k i u q there (omega arith)) in (
        w,
        act,
        taken_valid (in_use xs) s.homes me.1 k.full (λ r. let a = k.meets.apart r in let same = in_rooms r in omega arith),
        step_keeps s k id v w (set s.words HEAD 0) homes [] h
            record {
              at = at;
              word_is = pool_beside_head s.words 0;
              pooled = λ q m. untaken (in_use xs) s.homes me.1 q (in_rooms q ∙ (let o = k.meets.apart q in omega arith));
              deep = taken_long (in_use xs) s.homes me.1;
              even =
                  let a = ap (λ (l : List ℕ). length l) (rooms_taking xs) in
                  let b = length-map xs (λ x. x.0) in
                  let c = ap (λ d. length v.free.rooms + length (held_rooms d)) idle in omega arith;
              spent = λ e. absurd (named e);
            } meets (length-set s.words HEAD 0) tt
            (home_frame s.homes homes (all_vacant v.free.rooms v.free.end) (λ q m. stays v id q at (subst (λ l. 1 ≤ times q l) (rooms_vacant E v.free.rooms v.free.end) m)) (k.free id v at))
            (λ i u q other there m. stays u i q there m) t.fits t.owned,
        λ _. record {
          chain = xs;
          found_is = k.meets.top;
          doing = refl;
          free = refl;
          hand = taken_carried (in_use xs) me.1;
          near = λ i r a. let low = home_near s.homes (in_use xs) k.full r (subst (λ l. 1 ≤ times r l) (sym (rooms_in_use xs)) (times_some r (rooms_of xs) i a)) in omega arith;
          few = few_in_chain s k slots deep;
          sees = t.grown;
        },
      )

  -- ---- loads of the quiet word
  -- the rooms of a party that was idle
  free_alone : (v : View E) (q : ℕ) → v.doing ≡ Idle → count_with_party q v ≡ times q v.free.rooms + 0
  free_alone v q idle = ap (λ d. times q v.free.rooms + times q (held_rooms d)) idle

  -- the slots of free rooms are taken, before those that stay
  holds : (s : TableState E) (k : RuleHolds s) (id i : ℕ) (me : SeatState E) (taken left : FreeChain) → get_elem? s.views id ≡ some me.0 → me.0.doing ≡ Idle
      → AtHome s.homes (all_vacant taken.rooms taken.end) → AtHome s.homes (all_vacant left.rooms left.end) → ((q : ℕ) → times q taken.rooms + times q left.rooms ≡ times q me.0.free.rooms)
      → length taken.rooms + length left.rooms ≡ length me.0.free.rooms
      → Valid s.homes me.1 (take_all (all_vacant taken.rooms taken.end))
      × RuleHolds (stepped s i (get_or s.words i 0) id me.1 (record me.0 { doing = Holding taken.rooms; free = left }) (take_all (all_vacant taken.rooms taken.end)))
  holds s k id i me taken left at idle home stay cut long =
      let v = me.0 in
      let w : View E = record v { doing = Holding taken.rooms; free = left } in
      let slots : Hand E = all_vacant taken.rooms taken.end in
      let homes = homes_after s.homes me.1 (take_all slots) in
      let own : (q : ℕ) → times q (rooms_of slots) ≡ times q taken.rooms = λ q. ap (times q) (rooms_vacant E taken.rooms taken.end) in
      let same : (q : ℕ) → times q taken.rooms ≡ 0 → get_elem? homes q ≡ get_elem? s.homes q = λ q none_of. untaken slots s.homes me.1 q (own q ∙ none_of) in (
        taken_valid slots s.homes me.1 home (λ q. let o = once s k id v q at in let c = cut q in let f = free_alone v q idle in let p = own q in omega arith),
        quiet s k id i v w homes at refl (λ q. let c = cut q in let f = free_alone v q idle in omega arith)
            (let c = ap (λ d. length v.free.rooms + length (held_rooms d)) idle in omega arith) (taken_long slots s.homes me.1) tt
            (home_frame s.homes homes (all_vacant left.rooms left.end)
            (λ q m. same q (let here = subst (λ l. 1 ≤ times q l) (rooms_vacant E left.rooms left.end) m in let o = once s k id v q at in let c = cut q in let f = free_alone v q idle in omega arith)) stay)
            (λ q none_of. same q (let c = cut q in let f = free_alone v q idle in omega arith)),
      )

  pub holds_first : (slots id i n : ℕ) (me : SeatState E) → me.0.doing ≡ Idle → Allows RuleHolds slots id me i (λ n. n) (play.after_hold n (step slots i 0 0 none) me)
  holds_first slots id i n me idle s k deep at fits =
      let v = me.0 in
      let first = first_rooms n v.free in
      let left = rest_rooms n v.free in
      let slots : Hand E = all_vacant first.rooms first.end in
      let home : AtHome s.homes (slots ++ all_vacant left.rooms left.end) = subst (AtHome s.homes) (vacant_cut E n v.free) (k.free id v at) in
      let t = holds s k id i me first left at idle (home_front s.homes slots (all_vacant left.rooms left.end) home) (home_back s.homes slots (all_vacant left.rooms left.end) home)
      (λ q. let c = tally_cut (λ r. one_if (eqb r q)) n v.free.rooms in omega arith)
      (sym (length-append (take n v.free.rooms) (drop n v.free.rooms)) ∙ ap (λ (l : List ℕ). length l) (take-append-drop n v.free.rooms)) in
      (record v { doing = Holding first.rooms; free = left }, take_all slots, t.0, t.1, (refl, taken_carried slots me.1))

  pub holds_last : (slots id i : ℕ) (me : SeatState E) (before : List ℕ) (r : ℕ) → me.0.doing ≡ Idle → me.0.free.rooms ≡ before ++ r ∷ [] → Allows RuleHolds slots id me i (λ n. n) (play.after_hold_last (step slots i 0 0 none) me)
  holds_last slots id i me before r idle rooms s k deep at fits =
      let v = me.0 in
      let last : FreeChain = record { rooms = r ∷ []; end = v.free.end } in
      let left : FreeChain = record { rooms = before; end = suc r } in
      let slots : Hand E = all_vacant last.rooms last.end in
      let home : AtHome s.homes (all_vacant before (suc r) ++ slots) = subst (AtHome s.homes) (ap (λ l. all_vacant l v.free.end) rooms ∙ vacant_append E before (r ∷ []) v.free.end) (k.free id v at) in
      let t = holds s k id i me last left at idle (home_back s.homes (all_vacant before (suc r)) slots home) (home_front s.homes (all_vacant before (suc r)) slots home)
      (λ q. let c = tally_append (λ p. one_if (eqb p q)) before (r ∷ []) in let e = ap (times q) rooms in omega arith)
      (let c = length-append before (r ∷ []) in let e = ap (λ (l : List ℕ). length l) rooms in omega arith) in (
        record v { doing = Holding (r ∷ []); free = left },
        take_all slots,
        t.0,
        t.1,
        λ before' r' rooms'.
            let both = sym rooms ∙ rooms' in
            let one = last_same before before' r r' both in
            let others = front_same before before' r r' both in
            subst (λ (p : List ℕ × ℕ).
            let u : View E = record v { doing = Holding (p.1 ∷ []); free = record { rooms = p.0; end = suc p.1 } } in
            ((let w : View E = record v { doing = Holding (r ∷ []); free = left } in w) ≡ u) × (carried_after me.1 (take_all slots) ≡ (p.1, vacant v.free.end) ∷ me.1)) (λ i. (others i, one i)) (refl, taken_carried slots me.1),
      )

  -- the slots in hand are returned, which are those of a free chain
  gives_back : (s : TableState E) (k : RuleHolds s) (id i slots : ℕ) (me : SeatState E) (chain : FreeChain) (rooms : List ℕ) (end : ℕ) → get_elem? s.views id ≡ some me.0 → length s.homes ≡ slots
      → held_rooms me.0.doing ≡ chain.rooms → me.1 ≡ all_vacant chain.rooms chain.end → Near slots chain.rooms
      → ((q : ℕ) → times q rooms ≡ times q chain.rooms + times q me.0.free.rooms) → length rooms ≡ length chain.rooms + length me.0.free.rooms
      → ((homes : Homes E) → AtHome homes (all_vacant chain.rooms chain.end) → AtHome homes (all_vacant me.0.free.rooms me.0.free.end) → AtHome homes (all_vacant rooms end))
      → RuleHolds (stepped s i (get_or s.words i 0) id me.1 (record me.0 { doing = Idle; free = record { rooms = rooms; end = end } }) (give_all me.1))
  gives_back s k id i slots me chain rooms end at deep held hand near sum long home =
      let v = me.0 in
      let w : View E = record v { doing = Idle; free = record { rooms = rooms; end = end } } in
      let all : Hand E = all_vacant chain.rooms chain.end in
      let homes = homes_after s.homes all (give_all all) in
      let own : (q : ℕ) → times q (rooms_of all) ≡ times q chain.rooms = λ q. ap (times q) (rooms_vacant E chain.rooms chain.end) in
      let whole : (q : ℕ) → count_with_party q v ≡ times q v.free.rooms + times q chain.rooms = λ q. ap (λ l. times q v.free.rooms + times q l) held in
      let same : (q : ℕ) → times q chain.rooms ≡ 0 → get_elem? homes q ≡ get_elem? s.homes q = λ q none_of. ungiven all s.homes q (own q ∙ none_of) in
      let given = given_home all s.homes (λ q. let o = once s k id v q at in let c = whole q in let p = own q in omega arith)
      (λ q m. let p = own q in let t = times_at q chain.rooms (omega arith) in let low = near t.0 q t.1 in omega arith) in
      let left = home_frame s.homes homes (all_vacant v.free.rooms v.free.end)
      (λ q m. same q (let here = subst (λ l. 1 ≤ times q l) (rooms_vacant E v.free.rooms v.free.end) m in let o = once s k id v q at in let c = whole q in omega arith)) (k.free id v at) in
      subst (λ cs. RuleHolds (stepped s i (get_or s.words i 0) id cs w (give_all cs))) (sym hand)
      (quiet s k id i v w homes at refl (λ q. let c = whole q in let m = sum q in omega arith)
      (let c = ap (λ (l : List ℕ). length v.free.rooms + length l) held in omega arith) (given_long all s.homes) tt (home homes given left) (λ q none_of. same q (let c = whole q in omega arith)))

  pub returns : (slots id i : ℕ) (me : SeatState E) → me.1 ≡ all_vacant (held_rooms me.0.doing) (last_link me.1) → Near slots (held_rooms me.0.doing) → MayJoin (chain_in_hand me) me.0.free
      → Allows RuleHolds slots id me i (λ n. n) (play.after_return (step slots i 0 0 none) me)
  returns slots id i me hand near may s k deep at fits =
      let v = me.0 in
      let chain = chain_in_hand me in
      let all = joined chain v.free in
      let w : View E = record v { doing = Idle; free = all } in
      let kept = gives_back s k id i slots me chain all.rooms all.end at deep refl hand near (λ q. tally_append (λ p. one_if (eqb p q)) chain.rooms v.free.rooms) (length-append chain.rooms v.free.rooms)
      (λ homes given left. subst (AtHome homes) (sym (vacant_joined E chain v.free may)) (home_append homes (all_vacant chain.rooms chain.end) (all_vacant v.free.rooms v.free.end) given left)) in
      let few = few_rooms (stepped s i (get_or s.words i 0) id me.1 w (give_all me.1)) kept id w (set_here s.views id w (at_length s.views id v at)) in (
        w,
        give_all me.1,
        given_valid me.1 s.homes,
        kept,
        record { view_is = refl; hand = given_carried me.1; few = subst (λ n. length all.rooms ≤ n) (given_long me.1 s.homes ∙ deep) few },
      )

  pub appends : (slots id i : ℕ) (me : SeatState E) (r link : ℕ) → me.0.doing ≡ Holding (r ∷ []) → me.1 ≡ (r, vacant link) ∷ [] → r < slots → IsTied me.0.free (suc r)
      → Allows RuleHolds slots id me i (λ n. n) (play.after_append (step slots i 0 0 none) me)
  appends slots id i me r link doing hand inside tied s k deep at fits =
      let v = me.0 in
      let chain : FreeChain = record { rooms = r ∷ []; end = link } in
      let all = with_last r link v.free in
      let w : View E = record v { doing = Idle; free = all } in
      let kept = gives_back s k id i slots me chain all.rooms all.end at deep (ap (λ d. held_rooms d) doing) hand (near_one slots r inside)
      (λ q. let t = tally_append (λ p. one_if (eqb p q)) v.free.rooms (r ∷ []) in omega arith) (let t = length-append v.free.rooms (r ∷ []) in omega arith)
      (λ homes given left. subst (AtHome homes) (sym (vacant_last E v.free r link tied)) (home_append homes (all_vacant v.free.rooms v.free.end) (all_vacant (r ∷ []) link) left given)) in (
        w,
        give_all me.1,
        given_valid me.1 s.homes,
        kept,
        λ r' link' doing' hand'.
            let one = ap room_of (sym doing ∙ doing') in
            let to = ap (λ l. link_of (slot_or (vacant link) l)) (sym hand ∙ hand') in
            subst (λ (p : ℕ × ℕ). (w ≡ (let u : View E = record v { doing = Idle; free = with_last p.0 p.1 v.free } in u)) × (carried_after me.1 (give_all me.1) ≡ [])) (λ i. (one i, to i)) (refl, given_carried me.1),
      )
