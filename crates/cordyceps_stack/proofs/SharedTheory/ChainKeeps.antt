-- A push of several elements at one step keeps the rule of a transfer stack's table.
use Rattle.std.proofs.Common.{◌≡◌, ◌≢◌, ℕ, suc, ◌+◌, ◌≤◌, List, [], ◌∷◌, ◌++◌, map, reverse, length, set, eqb, true, refl, sym, ap, ◌∙◌, subst, arith, append-nil, eq-eqb, ne_eqb, length-set, length-append}
use Rattle.std.proofs.lemmas.List.{map-append, length-map}
use mathlib.Core.Option.{some, none}
use mathlib.Core.Logic.{dite}
use native.Mathlib.Decide.{ℕ_discrete}
use lib.ListN.{get_elem?}
use prog.Atomic.{either}
use Rattle.atomic_table.specs.Table.{step, keeps, stepped, homes_after, carried_after, Allows}
use Rattle.cordyceps_shared.specs.FreeChains.{leads}
use Rattle.cordyceps_shared.specs.Counts.{one_if, times}
use Rattle.cordyceps_shared.specs.Histories.{with_marks, of_seat}
use Rattle.cordyceps_shared.specs.Knowing.{Under}
use Rattle.cordyceps_shared.specs.Shares.{Name}
use Rattle.cordyceps_shared.specs.Slots.{Near}
use Rattle.cordyceps_shared.specs.Words.{head}
use Rattle.cordyceps_shared.specs.declared.layout.TheConstants.{HEAD}
use Rattle.cordyceps_shared.proofs.Choices.{first_or, rest_from}
use Rattle.cordyceps_shared.proofs.Counting.{tally_append, distinct_few}
use Rattle.cordyceps_shared.proofs.Places.{times_at}
use Rattle.cordyceps_shared.proofs.HistoryMarks.{marked_append}
use Rattle.cordyceps_shared.proofs.Words.{pool_beside_head}
use Rattle.cordyceps_stack.specs.History.{Event, Load, Push, actor}
use Rattle.cordyceps_stack.specs.Shared.Calls.{pushes_of}
use Rattle.cordyceps_stack.specs.Shared.Slots.{Hand, TableStep, start, filled, rooms_of, in_use, in_use_to, all_vacant, AtHome, link_of}
use Rattle.cordyceps_stack.specs.Shared.View.{Doing, Idle, LoadedAll, Walking, name, held_rooms, count_with_party}
use Rattle.cordyceps_stack.specs.Shared.Words.{AtDoing}
use Rattle.cordyceps_stack.specs.Shared.Rule.{TableState, RuleHolds}
use Rattle.cordyceps_stack.specs.Shared.Plays.{SeatState, HasHitAll, HasFailedAll, all_then, rooms_then, elements_then, chain_then}
use Rattle.cordyceps_stack.specs.Shared.Plays as play
use Rattle.cordyceps_stack.proofs.SharedTheory.SlotMoves.{rooms_to, rooms_vacant, in_use_onto, home_frame, home_append, give_all, ungiven, given_valid, given_carried, given_home, given_long}
use Rattle.cordyceps_stack.proofs.SharedTheory.StepsKeep.{slot_or, element_or, head_few, view_after, Passes, head_marked, told, step_keeps, untouched, unwritten, once, chain_stays, pool_stays, others_stay, overtaken}
use Rattle.cordyceps_stack.proofs.SharedTheory.WordsKeep.{since_now, rests, loads, pushes_all}

-- the rooms and elements of an exchange, of which the last stand alone, and its word
record ExchangedAll (E : Type 0) : Type 0 where
  before : List (ℕ × E)
  room : ℕ
  element : E
  read : ℕ

module _ {E : Type 0} where
  under_pushes : (n : Name) (es : List E) → Under (actor {E = E}) n (map (Push n) es)
  under_pushes n [] = tt
  under_pushes n (e ∷ es) = (refl, under_pushes n es)

  marks_of : (j : ℕ) (es : List (Event Name E)) → with_marks j (of_seat j es) ≡ map (λ v. (true, v)) es
  marks_of j [] = refl
  marks_of j (e ∷ es) = λ i. (eq-eqb j j refl i, e) ∷ marks_of j es i

  -- ---- a load of head
  pub loads_all : (slots id : ℕ) (me : SeatState E) → me.0.known.share ≢ [] → Allows RuleHolds slots id me HEAD (λ n. n) (play.after_load_all (step slots HEAD 0 0 none) me)
  loads_all slots id me named s k deep at fits =
      let v = me.0 in
      let x : Event Name E = Load (name v) in
      let h = k.history ++ (id, x) ∷ [] in
      let read = head s.words in
      let w = view_after v id h v.free (LoadedAll (held_rooms v.doing) read) in
      let meets = loads k.pool.rooms s.words k.chain s.views k.history id v w (name v) k.meets at (λ q. omega arith) (since_now s.words k.history id (name v)) in
      let t = told s k id (x ∷ []) v w h at named (refl, tt) refl refl meets.legal in (
        w,
        keeps,
        tt,
        unwritten s HEAD s.homes (set s.views id w) (step_keeps s k id v w s.words s.homes k.chain h (untouched s k id v w at refl (λ e. absurd (named e))) meets refl k.full (k.free id v at) (λ _ _ _ _ _ _. refl) t.fits t.owned),
        record { doing = refl; free = refl; hand = refl; few = head_few s k slots deep; sees = t.grown },
      )

  -- ---- an exchange of head
  -- what a party does, and what it has in hand, at an exchange
  pub record PoisedAll (slots : ℕ) (me : SeatState E) (before : List (ℕ × E)) (r : ℕ) (x : E) (read : ℕ) : Type 0 where
    pub doing : me.0.doing ≡ LoadedAll (rooms_then before r) read
    pub hand : me.1 ≡ chain_then before r x read
    pub named : me.0.known.share ≢ []
    pub inside : Near slots (rooms_then before r)

  hits_all : (slots id : ℕ) (me : SeatState E) (before : List (ℕ × E)) (r : ℕ) (x : E) (read : ℕ) → PoisedAll slots me before r x read → (s : TableState E) (k : RuleHolds s) → length s.homes ≡ slots → get_elem? s.views id ≡ some me.0
      → head s.words ≡ read → Passes s id HEAD (leads (rooms_of before) (suc r)) me (HasHitAll (elements_then before x) (head s.words) me)
  hits_all slots id me before r x read poised s k deep at top =
      let v = me.0 in
      let first = leads (rooms_of before) (suc r) in
      let rooms = rooms_then before r in
      let es : List (Event Name E) = pushes_of (name v) (elements_then before x) in
      let h = k.history ++ of_seat id es in
      let w = view_after v id h v.free Idle in
      let all : Hand E = chain_then before r x read in
      let homes = homes_after s.homes all (give_all all) in
      let own : (q : ℕ) → times q (rooms_of all) ≡ times q rooms = λ q.
      let a = tally_append (λ p. one_if (eqb p q)) (rooms_of before) (r ∷ []) in
      let b = ap (times q) (rooms_to before (suc r)) in omega arith in
      let was : (q : ℕ) → count_with_party q v ≡ times q v.free.rooms + times q rooms = λ q. ap (λ d. times q v.free.rooms + times q (held_rooms d)) poised.doing in
      let same : (q : ℕ) → times q rooms ≡ 0 → get_elem? homes q ≡ get_elem? s.homes q = λ q none_of. ungiven all s.homes q (own q ∙ none_of) in
      let given = given_home all s.homes (λ q. let o = once s k id v q at in let c = was q in let p = own q in omega arith)
      (λ q m. let p = own q in let t = times_at q rooms (omega arith) in let low = poised.inside t.0 q t.1 in omega arith) in
      let mine : (q : ℕ) → count_with_party q v ≡ 0 → get_elem? homes q ≡ get_elem? s.homes q = λ q none_of. same q (let c = was q in omega arith) in
      let wide = k.wide in
      let meets = pushes_all k.pool.rooms s.words k.chain s.views k.history id v w before r (name v) x k.meets at (ap (λ d. held_rooms d) poised.doing) refl refl (omega arith) in
      let t = told s k id es v w h at poised.named (under_pushes (name v) (reverse (elements_then before x))) refl refl meets.legal in
      let below : filled x read ≡ filled x (start k.chain) = ap (λ n. filled x n) (sym top ∙ k.meets.top) in
      let full : AtHome homes (in_use (before ++ (r, x) ∷ k.chain)) = subst (AtHome homes) (sym (in_use_onto before ((r, x) ∷ k.chain)))
      (home_append homes (in_use_to before (suc r)) (in_use ((r, x) ∷ k.chain)) given.1 (given.0 ∙ ap (λ z. some (some z)) below, chain_stays s k id v homes at mine)) in
      let kept = step_keeps s k id v w (set s.words HEAD first) homes (before ++ (r, x) ∷ k.chain) h
      record {
        at = at;
        word_is = pool_beside_head s.words first;
        pooled = pool_stays s k id v homes at mine;
        deep = given_long all s.homes;
        even =
            let a = ap (λ d. length v.free.rooms + length (held_rooms d)) poised.doing in
            let b = length-append (rooms_of before) (r ∷ []) in
            let c = length-append before ((r, x) ∷ k.chain) in
            let d = length-map before (λ (z : ℕ × E). z.0) in omega arith;
        spent = λ e. absurd (poised.named e);
      } meets (length-set s.words HEAD first) full
      (home_frame s.homes homes (all_vacant v.free.rooms v.free.end)
      (λ q m. same q (let here = subst (λ l. 1 ≤ times q l) (rooms_vacant E v.free.rooms v.free.end) m in let o = once s k id v q at in let c = was q in omega arith)) (k.free id v at))
      (others_stay s k id v homes at mine) t.fits t.owned in record {
        view = w;
        act = give_all me.1;
        valid = given_valid me.1 s.homes;
        holds = subst (λ c. RuleHolds record { words = set s.words HEAD first; homes = homes_after s.homes c (give_all c); views = set s.views id w }) (sym poised.hand) kept;
        after = record {
          doing = refl;
          free = refl;
          hand = given_carried me.1;
          sees = t.grown;
          ends = record {
            before = with_marks id k.history;
            is = marked_append id k.history (of_seat id es) ∙ ap (λ z. with_marks id k.history ++ z) (marks_of id es);
            first = head_marked s k id;
          };
        };
      }

  fails_all : (slots id : ℕ) (me : SeatState E) (before : List (ℕ × E)) (r : ℕ) (x : E) (read : ℕ) → PoisedAll slots me before r x read → (s : TableState E) (k : RuleHolds s) → length s.homes ≡ slots → get_elem? s.views id ≡ some me.0
      → head s.words ≢ read → Passes s id HEAD (head s.words) me (HasFailedAll slots (all_then before r x) me)
  fails_all slots id me before r x read poised s k deep at miss =
      let v = me.0 in
      let rooms = rooms_then before r in
      let xs = all_then before r x in
      let same : rooms_of xs ≡ rooms = map-append (λ (z : ℕ × E). z.0) before ((r, x) ∷ []) in
      let w = view_after v id k.history v.free (Walking xs) in
      let was : (q : ℕ) → count_with_party q v ≡ times q v.free.rooms + times q rooms = λ q. ap (λ d. times q v.free.rooms + times q (held_rooms d)) poised.doing in
      let known : AtDoing s.words k.history id (LoadedAll rooms read) = subst (λ (d : Doing E). AtDoing s.words k.history id d) poised.doing (k.meets.each id v at) in
      let meets = rests k.pool.rooms s.words k.chain s.views k.history id v w k.meets at (λ q. let c = was q in let d = ap (times q) same in omega arith) tt in
      let t = told s k id [] v w k.history at poised.named tt (sym (append-nil k.history)) refl meets.legal in
      let few = distinct_few slots rooms (λ q. let o = once s k id v q at in let c = was q in omega arith) (λ q m. let t = times_at q rooms m in poised.inside t.0 q t.1) in
      let long = length-map xs (λ (z : ℕ × E). z.0) in
      let size = ap (λ (l : List ℕ). length l) same in record {
        view = w;
        act = keeps;
        valid = tt;
        holds = unwritten s HEAD s.homes (set s.views id w) (step_keeps s k id v w s.words s.homes k.chain k.history
            (untouched s k id v w at (let a = ap (λ d. length v.free.rooms + length (held_rooms d)) poised.doing in let b = ap (λ (l : List ℕ). length l) same in omega arith) (λ e. absurd (poised.named e))) meets refl k.full (k.free id v at) (λ _ _ _ _ _ _. refl) t.fits t.owned);
        after = record {
          doing = refl;
          few = omega arith;
          free = refl;
          hand = refl;
          sees = t.grown;
          overtaken = overtaken s k id read known miss;
        };
      }

  -- the rooms of slots in hand, with their elements
  used : E → Hand E → List (ℕ × E)
  used d [] = []
  used d (x ∷ xs) = (x.0, element_or d x.1) ∷ used d xs

  used_to : (d : E) (xs : List (ℕ × E)) (end : ℕ) → used d (in_use_to xs end) ≡ xs
  unfolding used
  used_to d [] end = refl
  used_to d (x ∷ xs) end = ap (λ l. x ∷ l) (used_to d xs end)

  -- what the exchange tells of a party that was poised with these
  TellsAll : (slots : ℕ) (me k : SeatState E) (found : ℕ) → ExchangedAll E → Type 0
  TellsAll slots me k found z = (found ≡ z.read → HasHitAll (elements_then z.before z.element) found me k) × (found ≢ z.read → HasFailedAll slots (all_then z.before z.room z.element) me k)

  says_all : (st : TableStep E) (slots : ℕ) (me k : SeatState E) (before : List (ℕ × E)) (r : ℕ) (x : E) (read found : ℕ) → PoisedAll slots me before r x read → TellsAll st.slots me k found record { before = before; room = r; element = x; read = read } → play.after_exchange_all st me found k
  unfolding TellsAll
  says_all st slots me k before r x read found poised t before' r' x' read' doing hand =
      let q = sym poised.hand ∙ hand in
      let rooms : before ≡ before' = sym (used_to x before (suc r)) ∙ (ap (λ l. used x (rest_from l)) q ∙ used_to x before' (suc r')) in
      let slot = ap (λ l. slot_or (filled x read) l) q in
      let room = ap (λ (l : Hand E). first_or 0 (rooms_of l)) q in
      subst (TellsAll st.slots me k found) (λ i. record { before = rooms i; room = room i; element = element_or x (slot i); read = link_of (slot i) }) t

  pub exchanges_all : (slots id new : ℕ) (me : SeatState E) (before : List (ℕ × E)) (r : ℕ) (x : E) (read : ℕ) → new ≡ leads (rooms_of before) (suc r) → PoisedAll slots me before r x read
      → Allows RuleHolds slots id me HEAD (λ n. either (eqb n read) new n) (play.after_exchange_all (step slots HEAD read new none) me)
  unfolding TellsAll
  exchanges_all slots id new me before r x read is poised s k deep at fits =
      let n : ℕ = head s.words in
      let st : TableStep E = step slots HEAD read new none in
      dite (ℕ_discrete n read)
      (λ hit. let d = hits_all slots id me before r x read poised s k deep at hit in (
        d.view,
        d.act,
        d.valid,
        subst (λ (m : ℕ). RuleHolds (stepped s HEAD m id me.1 d.view d.act)) (sym is ∙ sym (ap (λ b. either b new n) (eq-eqb n read hit))) d.holds,
        says_all st slots me (d.view, carried_after me.1 d.act) before r x read n poised (λ _. d.after, λ miss. absurd (miss hit)),
      ))
      (λ miss. let d = fails_all slots id me before r x read poised s k deep at miss in (
        d.view,
        d.act,
        d.valid,
        subst (λ (m : ℕ). RuleHolds (stepped s HEAD m id me.1 d.view d.act)) (sym (ap (λ b. either b new n) (ne_eqb n read miss))) d.holds,
        says_all st slots me (d.view, carried_after me.1 d.act) before r x read n poised (λ hit. absurd (miss hit), λ _. d.after),
      ))
