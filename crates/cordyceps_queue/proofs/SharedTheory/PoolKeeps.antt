-- The pool of a queue's table: a party takes it, and gives rooms back to it.
use Rattle.std.proofs.Common.{◌≡◌, ◌<◌, ◌≢◌, ℕ, suc, ◌+◌, ◌≤◌, List, [], ◌∷◌, ◌++◌, reverse, length, set, get_or, take, drop, eqb, Option, Some, None, refl, sym, ap, ◌∙◌, subst, inl, inr, arith, append-nil, eq-eqb, ne_eqb, length-set, length-append, take-append-drop}
use mathlib.Core.Option.{some, none}
use mathlib.Core.Logic.{dite}
use native.Mathlib.Decide.{ℕ_discrete}
use lib.ListN.{get_elem?}
use lib.Seq.{set-get_or}
use prog.Atomic.{either}
use Rattle.atomic_table.specs.Table.{Act, keeps, takes, step, stepped, homes_after, carried_after, Valid, Allows}
use Rattle.atomic_table.specs.Table as table
use Rattle.atomic_table.proofs.Lists.{set_here, set_else}
use Rattle.cordyceps_shared.specs.FreeChains.{FreeChain, Links, MayJoin, leads, first_rooms, rest_rooms}
use Rattle.cordyceps_shared.specs.Histories.{events, plain}
use Rattle.cordyceps_shared.specs.Knowing.{Known, SharesDisjoint, AllAgree, all_seen}
use Rattle.cordyceps_shared.specs.Places.{ItemAt}
use Rattle.cordyceps_shared.specs.Pools.{Packs, LeadsTo}
use Rattle.cordyceps_shared.specs.Shares.{Name, whole, first_name}
use Rattle.cordyceps_shared.specs.Slots.{Homes, Near, EmptyAtHome}
use Rattle.cordyceps_shared.specs.Words as word
use Rattle.cordyceps_shared.specs.declared.layout.TheConstants.{POOL, LINKS}
use Rattle.cordyceps_shared.proofs.ChangedItems.{one_set}
use Rattle.cordyceps_shared.proofs.Counting.{tally_set, tally_one, tally_only}
use Rattle.cordyceps_shared.proofs.FreeLinks.{links_at, links_drop, links_take}
use Rattle.cordyceps_shared.proofs.Places.{at_either, at_end, at_take, at_drop, empty_drop, empty_take}
use Rattle.cordyceps_shared.proofs.Pools.{none_in_pool, some_in_pool}
use Rattle.cordyceps_shared.proofs.HistoryMarks.{plain_marked}
use Rattle.cordyceps_shared.proofs.StepEvents.{at_length, owned_same, fits_same, only_share, whole_saw, tells}
use Rattle.cordyceps_shared.proofs.Words.{pool_set, head_beside_pool, right_beside_pool}
use Rattle.cordyceps_queue.specs.Bells.{IsQuiet}
use Rattle.cordyceps_queue.specs.History.{Event, held, actor}
use Rattle.cordyceps_queue.specs.Cores.Abstract.{AbstractParty, update}
use Rattle.cordyceps_queue.specs.Cores.Meets.{Owner, Spare, Pooled, OwnsRooms, Meets, real}
use Rattle.cordyceps_queue.specs.declared.cores.stage.Stage.TheVariants.{Rest, Cleared}
use Rattle.cordyceps_queue.specs.Shared.Bits.{IsRight, SpellsFree, KeepsUse, SpellsWords}
use Rattle.cordyceps_queue.specs.Shared.Plays.{SeatState, LegalReversed, LacksRooms, Sees, carry}
use Rattle.cordyceps_queue.specs.Shared.Uses as play
use Rattle.cordyceps_queue.specs.Shared.Rule.{TableState, party, machine_of, IsPool, PlainHolds, RuleHolds}
use Rattle.cordyceps_queue.specs.Shared.View.{View, knows, bit_of, free_chain, back_chain, view_returned, with_first_rooms, room_count}
use Rattle.cordyceps_queue.proofs.Legality.{held_of}
use Rattle.cordyceps_queue.proofs.CoreTheory.Basics.{at_more}
use Rattle.cordyceps_queue.proofs.CoreTheory.ChainGrows.{held_length}
use Rattle.cordyceps_queue.proofs.CoreTheory.ProducerSteps.{spare_pooled, shared_pooled}
use Rattle.cordyceps_queue.proofs.CoreTheory.SpareMoves.{MovesRooms, moves_keep}
use Rattle.cordyceps_queue.proofs.CoreTheory.SplitParties.{deal_behind, deal, deal_else, deal_here, deal_fixed, deal_others, deal_kept, deal_first}
use Rattle.cordyceps_queue.proofs.SharedTheory.EnqueueKeeps.{views_put}
use Rattle.cordyceps_queue.proofs.SharedTheory.ReturnKeeps.{homes_given, give_all, give_homes, give_carried, give_valid, settles}
use Rattle.cordyceps_queue.proofs.SharedTheory.SpareKeeps.{skip_kept}
use Rattle.cordyceps_queue.proofs.SharedTheory.UsesKeep.{plain_table, mine}
use Rattle.cordyceps_queue.proofs.SharedTheory.UsesShare.{same_words}
use Rattle.cordyceps_queue.proofs.SharedTheory.UsesSpell.{free_link_as, pool_links, spells_low}
use Rattle.cordyceps_queue.proofs.SharedTheory.BellWord.{bell_beside, rung_still}
use Rattle.cordyceps_queue.proofs.SharedTheory.WordsAsMachine.{party_spelled, at_after, next_low, core, party_at, rooms_of, free_spare, spent_else}

-- ---- the slots of the pool's rooms are taken
abbrev take_all : {E : Type 0} → List ℕ → Act (Option E)
take_all [] = keeps
take_all (b ∷ bs) = table.chain (take_all bs) (takes b None)

abbrev homes_taken : {E : Type 0} → Homes E → List ℕ → Homes E
homes_taken homes [] = homes
homes_taken homes (b ∷ bs) = set (homes_taken homes bs) b none

module _ {E : Type 0} where
  take_homes : (bs : List ℕ) (hs : Homes E) → homes_after hs [] (take_all bs) ≡ homes_taken hs bs
  take_homes [] hs = refl
  take_homes (b ∷ bs) hs = ap (λ (l : Homes E). set l b none) (take_homes bs hs)

  take_carried : (bs : List ℕ) → carried_after [] (take_all {E = E} bs) ≡ carry bs
  take_carried [] = refl
  take_carried (b ∷ bs) = ap (λ l. (b, None) ∷ l) (take_carried bs)

  taken_else : (bs : List ℕ) (hs : Homes E) (x : ℕ) → ((i : ℕ) → ItemAt bs i x → ⊥) → get_elem? (homes_taken hs bs) x ≡ get_elem? hs x
  taken_else [] hs x away = refl
  taken_else (b ∷ bs) hs x away = set_else (homes_taken hs bs) b x none (away 0) ∙ taken_else bs hs x (λ i. away (suc i))

  taken_length : (bs : List ℕ) (hs : Homes E) → length (homes_taken hs bs) ≡ length hs
  taken_length [] hs = refl
  taken_length (b ∷ bs) hs = length-set (homes_taken hs bs) b none ∙ taken_length bs hs

  take_valid : (bs : List ℕ) (hs : Homes E) → ((i j r : ℕ) → ItemAt bs i r → ItemAt bs j r → i ≡ j) → EmptyAtHome hs bs → Valid hs [] (take_all bs)
  take_valid [] hs once empty = tt
  take_valid (b ∷ bs) hs once empty = (
    take_valid bs hs (λ i j r x y. let e = once (suc i) (suc j) r x y in omega arith) (λ i r a. empty (suc i) r a),
    ap (λ (l : Homes E). get_elem? l b) (take_homes bs hs) ∙ (taken_else bs hs b (λ i a. let e = once (suc i) 0 b a refl in absurd (omega arith)) ∙ empty 0 b refl),
  )

-- ---- what a step on the pool's word keeps of the plain rule
module _ {E : Type 0} (s : TableState E) (k : PlainHolds s) (id : ℕ) (v : View E) (at : get_elem? s.views id ≡ some v) (named : v.known.share ≢ []) (known : Known (Event Name E)) (same : known.share ≡ v.known.share) (free : List ℕ) (end : ℕ) (back : List ℕ) (to : ℕ) where
  abbrev past : List (Event Name E)
  past = reverse (events k.history)

  abbrev pub view_moved : View E
  view_moved = record v { known = known; free = free; end = end; back = back; to = to }

  -- rooms go from the pool to the party, or from it to the pool
  pub record MovesPool (owner : ℕ → Owner) (homes : Homes E) (pool : FreeChain) : Type 0 where
    pub moves : MovesRooms k.chain.owner id owner (free ++ back)
    pub slots : (r : ℕ) → (k.chain.owner r ≡ Pooled → ⊥) → get_elem? homes r ≡ get_elem? s.homes r
    pub deep : length homes ≡ length s.homes
    pub empty : EmptyAtHome homes free
    pub linked : Links s.words free end × Links s.words back to
    pub pooled : IsPool owner s.words homes pool
    pub even : length pool.rooms + room_count view_moved ≡ length k.pool.rooms + room_count v
    pub fits : AllAgree actor knows (set s.views id view_moved) k.history
    pub owned : SharesDisjoint knows (set s.views id view_moved) k.history

  pub record PoolMoved (homes : Homes E) (pool : FreeChain) : Type 0 where
    pub now : PlainHolds record { words = s.words; homes = homes; views = set s.views id view_moved }
    pub uses : now.uses ≡ k.uses
    pub rooms : now.chain.rooms ≡ k.chain.rooms
    pub pool_is : now.pool ≡ pool
    pub calm : IsQuiet (events k.history) → IsQuiet (events now.history)

  still_named : known.share ≢ []
  still_named e = named (sym same ∙ e)

  moved_machine : record (core s k) { party = update (core s k).party id (Some (record (party v) { spare = free ++ back })) } ≡ machine_of k.cell s.words (set s.views id view_moved)
  moved_machine = party_spelled s.words k.cell (set s.views id view_moved) (ap (λ (q : AbstractParty Name). update (core s k).party id (Some q)) (λ j. record { name = first_name (sym same j); stage = v.stage; spare = free ++ back }) ∙ views_put s k id v at named view_moved still_named)

  pub pool_moved : (owner : ℕ → Owner) (homes : Homes E) (pool : FreeChain) → MovesPool owner homes pool → PoolMoved homes pool
  pool_moved owner homes pool g = record {
    now = record {
      uses = k.uses;
      history = k.history;
      cell = k.cell;
      chain = record k.chain { owner = owner };
      pool = pool;
      meets = subst (λ m. Meets m (record k.chain { owner = owner }) past) moved_machine (moves_keep (core s k) k.chain past k.meets id (party v) (party_at s k id v at named) owner (free ++ back) g.moves);
      wide = k.wide ∙ ap (λ n. LINKS + n) (sym g.deep);
      stub = subst (λ n. 1 ≤ n) (sym g.deep) k.stub;
      full = λ i r ir ne. g.slots r (shared_pooled (k.meets.shared i r ir)) ∙ k.full i r ir ne;
      empty = one_set (λ _ u. u.known.share ≢ [] → EmptyAtHome homes u.free) s.views id view_moved (λ _. g.empty)
          (λ j u _ e some_name i r ir. g.slots r (spare_pooled (free_spare s k j u i r e some_name ir)) ∙ k.empty j u e some_name i r ir);
      ready = λ j u r. one_set (λ _ z. z.known.share ≢ [] → z.stage ≡ Cleared r → k.cell r ≡ z.item) s.views id view_moved (λ _ is. k.ready id v r at named is) (λ i z _ e some_name is. k.ready i z r e some_name is) j u;
      linked = one_set (λ _ u. u.known.share ≢ [] → Links s.words u.free u.end × Links s.words u.back u.to) s.views id view_moved (λ _. g.linked) (λ j u _ e some_name. k.linked j u e some_name);
      pooled = g.pooled;
      all = let all = k.all in let even = g.even in let deep = g.deep in omega (arith, tally_set (room_count {E = E}) s.views id v view_moved at);
      spent = spent_else s k id view_moved still_named;
      fits = g.fits;
      owned = g.owned;
    };
    uses = refl;
    rooms = refl;
    pool_is = refl;
    calm = λ quiet. quiet;
  }

-- ---- what a whole party knows of the pool
module _ {E : Type 0} (s : TableState E) (k : PlainHolds s) (id : ℕ) (v : View E) (at : get_elem? s.views id ≡ some v) where
  -- rooms that are in the pool are neither its own nor in use
  pub lacks : k.pool.rooms ≢ [] → v.known.share ≡ whole → suc (length (held (plain v.known.seen)) + room_count v) < length s.homes
  lacks some_of is =
      let all = k.all in
      let one = tally_one (room_count {E = E}) s.views id v at in
      let long = held_length (core s k) k.chain (reverse (events k.history)) k.meets in
      let seen = ap (λ (l : List (Event Name E)). length (held l)) (whole_saw actor knows s.views k.history id v k.owned k.fits at is) in
      let back = ap (λ (l : List E). length l) (held_of (events k.history) k.meets.legal) in
      let more = some_length k.pool.rooms some_of in
      omega arith
    where
      some_length : (xs : List ℕ) → xs ≢ [] → 0 < length xs
      some_length [] some_of = absurd (some_of refl)
      some_length (x ∷ xs) some_of = omega arith

-- ---- and of the rule
module _ {E : Type 0} (s : TableState E) (k : RuleHolds s) (id : ℕ) (w : View E) where
  pool_rule : (n : ℕ) (homes : Homes E) (pool : FreeChain) (now : PlainHolds record { words = k.words; homes = homes; views = set s.views id w }) → now.uses ≡ k.plain.uses → now.chain.rooms ≡ k.plain.chain.rooms → now.pool ≡ pool → (IsQuiet (events k.plain.history) → IsQuiet (events now.history))
      → LeadsTo n pool → SpellsFree k.words s.words pool.rooms → KeepsUse (bit_of k.plain.uses) k.words s.words w → RuleHolds record { words = set s.words POOL n; homes = homes; views = set s.views id w }
  pool_rule n homes pool now uses rooms is calm leads_to free own_use =
      let p = k.plain in
      let wide = p.wide in
      let long = k.spells.long in
      let spelt : SpellsWords (bit_of p.uses) p.chain.rooms k.words (set s.words POOL n) (set s.views id w) =
      spells_low (bit_of p.uses) p.chain.rooms p.chain.rooms k.words s.words k.words (set s.words POOL n) s.views id w (λ _. refl) (next_low s.words POOL n (omega arith))
      (length-set s.words POOL n ∙ long) (head_beside_pool s.words n ∙ k.spells.head) (subst (λ x. IsRight (bit_of p.uses) (word.right k.words) x) (sym (right_beside_pool s.words n)) k.spells.right)
      (λ i x a. inl (i, a)) (λ _. own_use) k.spells in record {
        words = k.words;
        plain = now;
        spells = subst (λ (z : List (ℕ × ℕ) × List ℕ). SpellsWords (bit_of z.0) z.1 k.words (set s.words POOL n) (set s.views id w)) (λ j. (sym uses j, sym rooms j)) spelt;
        word_is = subst (λ (z : ℕ × FreeChain). LeadsTo z.0 z.1) (λ j. (sym (pool_set s.words n (omega arith)) j, sym is j)) leads_to;
        pooled = pool_links k.words s.words k.words (set s.words POOL n) pool now.pool is (λ i x a. (next_low s.words POOL n (omega arith) x, refl)) free;
        rung = rung_still s k (set s.words POOL n) (bell_beside s.words POOL n (λ e. absurd (omega arith))) calm;
      }

-- ---- a swap
module _ {E : Type 0} (s : TableState E) (k : PlainHolds s) (id : ℕ) (v : View E) (at : get_elem? s.views id ≡ some v) (named : v.known.share ≢ []) (bare : v.back ≡ []) where
  abbrev pub all_known : Known (Event Name E)
  all_known = all_seen id k.history v.known.share

  abbrev pub view_refilled : View E
  view_refilled = view_moved s k id v at named all_known refl v.free v.end k.pool.rooms k.pool.end

  abbrev no_pool : FreeChain
  no_pool = record { rooms = []; end = 0 }

  own_rooms : OwnsRooms k.chain.owner id v.free
  own_rooms = subst (OwnsRooms k.chain.owner id) (ap (λ l. v.free ++ l) bare ∙ append-nil v.free) (rooms_of s k id v at named)

  pub record ToldAll : Type 0 where
    pub owned : SharesDisjoint knows (set s.views id view_refilled) k.history
    pub fits : AllAgree actor knows (set s.views id view_refilled) k.history
    pub sees : Sees v [] view_refilled

  pub refill_told : ToldAll
  refill_told =
      let same = append-nil k.history in
      let t = tells actor knows LegalReversed s.views k.history id [] v view_refilled k.owned k.fits at named tt (ap (λ h. all_seen id h v.known.share) (sym same)) (subst (λ h. LegalReversed (events h)) (sym same) k.meets.legal) in
      record { owned = subst (SharesDisjoint knows (set s.views id view_refilled)) same t.owned; fits = subst (AllAgree actor knows (set s.views id view_refilled)) same t.fits; sees = t.grown }

  pub refilled : PoolMoved s k id v at named all_known refl v.free v.end k.pool.rooms k.pool.end (homes_taken s.homes k.pool.rooms) no_pool
  refilled = pool_moved s k id v at named all_known refl v.free v.end k.pool.rooms k.pool.end (deal (Spare id) k.pool.rooms k.chain.owner) (homes_taken s.homes k.pool.rooms) no_pool record {
    moves = record {
      fixed = λ r o e not_spare not_pooled. deal_else (Spare id) k.pool.rooms k.chain.owner r (λ i a. not_pooled (sym e ∙ k.pooled.own i r a)) ∙ e;
      others = λ j rooms ne R. record { own = λ i r a. deal_else (Spare id) k.pool.rooms k.chain.owner r (λ n c. spare_pooled (R.own i r a) (k.pooled.own n r c)) ∙ R.own i r a; once = R.once };
      mine = deal_behind k.chain.owner id v.free k.pool.rooms own_rooms (λ i r a free. spare_pooled free (k.pooled.own i r a)) k.pooled.once;
    };
    slots = λ r other. taken_else k.pool.rooms s.homes r (λ i a. other (k.pooled.own i r a));
    deep = taken_length k.pool.rooms s.homes;
    empty = λ i r a. taken_else k.pool.rooms s.homes r (λ n c. spare_pooled (free_spare s k id v i r at named a) (k.pooled.own n r c)) ∙ k.empty id v at named i r a;
    linked = ((k.linked id v at named).0, k.pooled.linked);
    pooled = record { own = λ i r a. absurd a; once = λ i j r a b. absurd a; linked = tt; empty = λ i r a. absurd a };
    even = let none_back = ap (λ (l : List ℕ). length l) bare in omega arith;
    fits = refill_told.fits;
    owned = refill_told.owned;
  }

  -- then each room is with a whole party, or has an element in it
  pub all_with : v.known.share ≡ whole → suc (length (held (plain view_refilled.known.seen)) + room_count view_refilled) ≡ length s.homes
  all_with is =
      let b = refilled in
      let views = set s.views id view_refilled in
      let here = set_here s.views id view_refilled (at_length s.views id v at) in
      let only = tally_only (room_count {E = E}) views id view_refilled here (λ i u ne e. b.now.spent i u e (only_share knows views k.history id i view_refilled u refill_told.owned here is ne e u.known.share refl)) in
      let all = b.now.all in
      let none_left = ap (λ (c : FreeChain). length c.rooms) b.pool_is in
      let chain = ap (λ (l : List ℕ). length (real l)) b.rooms in
      let deep = taken_length k.pool.rooms s.homes in
      let long = held_length (core s k) k.chain (reverse (events k.history)) k.meets in
      let same = ap (λ (l : List (Event Name E)). length (held l)) (plain_marked id k.history) in
      let back = ap (λ (l : List E). length l) (held_of (events k.history) k.meets.legal) in
      omega arith

  pub few_with : length (v.free ++ k.pool.rooms) ≤ length s.homes
  few_with =
      let b = refilled in
      let here = set_here s.views id view_refilled (at_length s.views id v at) in
      let one = tally_one (room_count {E = E}) (set s.views id view_refilled) id view_refilled here in
      let all = b.now.all in
      let deep = taken_length k.pool.rooms s.homes in
      let long = length-append v.free k.pool.rooms in
      omega arith

module _ {E : Type 0} where
  pub refills : (slots id : ℕ) (me : SeatState E) → me.0.stage ≡ Rest → me.0.back ≡ [] → me.1 ≡ [] → me.0.known.share ≢ [] → Allows RuleHolds slots id me POOL (λ _. 0) (play.after_refill (step slots POOL 0 0 none) me)
  refills slots id me idle bare hand named s k deep at fits =
      let q = plain_table s k in
      let p = k.plain in
      let v = me.0 in
      let own = mine s k id v at named in
      let b = refilled q p id v at named bare in
      let w = view_refilled q p id v at named bare in
      let rooms = p.pool.rooms in
      let a : Act (Option E) = take_all rooms in
      let own_use : KeepsUse (bit_of p.uses) k.words s.words w = record {
        free = λ i r x. elim (at_either v.free rooms i r x) [ inl c ↦ own.free i r (at_more v.free v.back i r c) | inr c ↦ k.pooled c.0 r c.1 ];
        begun = own.begun;
        knows = own.knows;
      } in
      let kept = pool_rule s k id w 0 (homes_taken s.homes rooms) record { rooms = []; end = 0 } b.now b.uses b.rooms b.pool_is b.calm (inl (refl, refl)) (λ i r x. absurd x) own_use in
      let few = few_with q p id v at named bare in (
        w,
        a,
        subst (λ z. Valid s.homes z a) (sym hand) (take_valid rooms s.homes p.pooled.once p.pooled.empty),
        subst (λ z. RuleHolds record { words = set s.words POOL 0; homes = homes_after s.homes z a; views = set s.views id w }) (sym hand)
            (subst (λ (hs : Homes E). RuleHolds record { words = set s.words POOL 0; homes = hs; views = set s.views id w }) (sym (take_homes rooms s.homes)) kept),
        record {
          leads = k.word_is;
          stage = idle;
          free = refl;
          hand = subst (λ z. carried_after z a ≡ carry rooms) (sym hand) (take_carried rooms);
          near = λ i r x. let l = at_length s.homes r (some None) (p.pooled.empty i r x) in omega arith;
          few = omega arith;
          sees = (refill_told q p id v at named bare).sees;
          all = λ is. all_with q p id v at named bare is ∙ deep;
        },
      )

  -- a word that is not 0 leads to some rooms
  pool_some : (s : TableState E) (k : RuleHolds s) → word.pool s.words ≢ 0 → k.plain.pool.rooms ≢ []
  pool_some s k ne nothing =
      let p = some_in_pool (word.pool s.words) k.plain.pool k.word_is ne in
      let c = p.tracks.count in
      let some_of = p.some_of in
      let long = ap (λ (l : List ℕ). length l) nothing in absurd (omega arith)

  -- ---- a step that changes no word, at which all slots in hand are given back
  record GivesAll (s : TableState E) (id i : ℕ) (me : SeatState E) : Type 0 where
    pub valid : Valid s.homes me.1 (give_all me.0.back)
    pub holds : RuleHolds (stepped s i (get_or s.words i 0) id me.1 (view_returned me.0) (give_all me.0.back))
    pub empty : carried_after me.1 (give_all me.0.back) ≡ []

  returns_all : (s : TableState E) (k : RuleHolds s) (id slots : ℕ) (me : SeatState E) → me.1 ≡ carry me.0.back → Near slots me.0.back → me.0.known.share ≢ [] → MayJoin (free_chain me.0) (back_chain me.0) → length s.homes ≡ slots → get_elem? s.views id ≡ some me.0 → (i : ℕ)
      → GivesAll s id i me
  returns_all s k id slots me hand near named may deep at i =
      let v = me.0 in
      let q = plain_table s k in
      let own = mine s k id v at named in
      let w = view_returned v in
      let bs = v.back in
      let a : Act (Option E) = give_all bs in
      let b = settles q k.plain id v at named (λ j x y. let l = near j x y in omega arith) may in
      let own_use : KeepsUse (bit_of k.plain.uses) k.words s.words w = record { free = λ j x y. own.free j x (subst (λ l. ItemAt l j x) (append-nil (v.free ++ bs)) y); begun = own.begun; knows = own.knows } in
      let kept = same_words s k (set s.views id w) (homes_given s.homes bs) b
      (one_set (λ _ u. u.known.share ≢ [] → KeepsUse (bit_of k.plain.uses) k.words s.words u) s.views id w (λ _. own_use) (λ j u ne e some_name. k.spells.each j u e some_name)) in record {
        valid = subst (λ z. Valid s.homes z a) (sym hand) (give_valid bs s.homes);
        holds = subst (λ z. RuleHolds record { words = set s.words i (get_or s.words i 0); homes = homes_after s.homes z a; views = set s.views id w }) (sym hand)
            (subst (λ (z : List ℕ × Homes E). RuleHolds record { words = z.0; homes = z.1; views = set s.views id w }) (λ j. (sym (set-get_or s.words i 0) j, sym (give_homes bs s.homes) j)) kept);
        empty = subst (λ z. carried_after z a ≡ []) (sym hand) (give_carried bs);
      }

  -- ---- a load of the link of the last room that the party took
  pub gathers : (slots id i : ℕ) (me : SeatState E) → me.1 ≡ carry me.0.back → Near slots me.0.back → me.0.known.share ≢ [] → MayJoin (free_chain me.0) (back_chain me.0) → Allows RuleHolds slots id me i (λ n. n) (play.after_gather (step slots i 0 0 none) me)
  gathers slots id i me hand near named may s k deep at fits =
      let v = me.0 in
      let q = plain_table s k in
      let own = mine s k id v at named in
      let w = view_returned v in
      let a = returns_all s k id slots me hand near named may deep at i in (
        w,
        give_all v.back,
        a.valid,
        a.holds,
        λ before r back is.
            let here : ItemAt (v.free ++ v.back) (length v.free + length before) r = at_after v.free v.back (length before) r (subst (λ l. ItemAt l (length before) r) (sym back) (at_end before r)) in
            let f = own.free (length v.free + length before) r here in
            let lead = links_at k.words before [] r v.to (subst (λ l. Links k.words l v.to) back (k.plain.linked id v at named).1) in
            record { view_is = refl; hand = a.empty; link = free_link_as (ap (λ n. get_or s.words n 0) is) (sym lead) f },
      )

  -- ---- a load of the pool's word
  pub glances : (slots id : ℕ) (me : SeatState E) → me.1 ≡ carry me.0.back → Near slots me.0.back → me.0.known.share ≢ [] → MayJoin (free_chain me.0) (back_chain me.0) → Allows RuleHolds slots id me POOL (λ n. n) (play.after_glance (step slots POOL 0 0 none) me)
  glances slots id me hand near named may s k deep at fits =
      let v = me.0 in
      let w = view_returned v in
      let a = returns_all s k id slots me hand near named may deep at POOL in
      let one = tally_one (room_count {E = E}) s.views id v at in
      let all = k.plain.all in
      let long = length-append v.free v.back in (
        w,
        give_all v.back,
        a.valid,
        a.holds,
        record {
          view_is = refl;
          hand = a.empty;
          few = omega arith;
          lacks = λ ne is. subst (λ n. suc (length (held (plain v.known.seen)) + room_count v) < n) deep (lacks (plain_table s k) k.plain id v at (pool_some s k ne) is);
        },
      )

  -- ---- a compare-exchange
  gives_all : (id n new : ℕ) (me : SeatState E) → me.0.back ≡ [] → me.0.known.share ≢ [] → Packs new (first_rooms n (free_chain me.0)) → (s : TableState E) (k : RuleHolds s) → get_elem? s.views id ≡ some me.0 → word.pool s.words ≡ 0
      → RuleHolds (stepped s POOL new id me.1 (record me.0 { free = drop n me.0.free }) keeps)
  gives_all id n new me bare named packs s k at null =
      let v = me.0 in
      let q = plain_table s k in
      let p = k.plain in
      let own = mine s k id v at named in
      let w : View E = record v { free = drop n v.free } in
      let none_there = none_in_pool (word.pool s.words) p.pool k.word_is null in
      let R : OwnsRooms p.chain.owner id v.free = subst (OwnsRooms p.chain.owner id) (ap (λ l. v.free ++ l) bare ∙ append-nil v.free) (rooms_of q p id v at named) in
      let given : (i r : ℕ) → ItemAt (take n v.free) i r → p.chain.owner r ≡ Spare id = λ i r a. R.own i r (at_take n v.free i r a).0 in
      let linked = p.linked id v at named in
      let b = pool_moved q p id v at named v.known refl (drop n v.free) v.end v.back v.to (deal Pooled (take n v.free) p.chain.owner) s.homes (first_rooms n (free_chain v)) record {
        moves = record {
          fixed = λ r o e not_spare _. deal_fixed p.chain.owner id Pooled (take n v.free) given r o e not_spare;
          others = λ j rooms ne S. deal_others p.chain.owner id Pooled (take n v.free) given j rooms ne S;
          mine = subst (OwnsRooms (deal Pooled (take n v.free) p.chain.owner) id) (sym (ap (λ l. drop n v.free ++ l) bare ∙ append-nil (drop n v.free))) (deal_kept p.chain.owner id v.free R n Pooled);
        };
        slots = λ r _. refl;
        deep = refl;
        empty = empty_drop s.homes n v.free (p.empty id v at named);
        linked = (links_drop k.words v.free n v.end linked.0, linked.1);
        pooled = record {
          own = λ i r a. deal_here Pooled (take n v.free) p.chain.owner i r a;
          once = λ i j r x y. R.once i j r (at_take n v.free i r x).0 (at_take n v.free j r y).0;
          linked = links_take k.words v.free n v.end linked.0;
          empty = empty_take s.homes n v.free (p.empty id v at named);
        };
        even =
            let none_of = ap (λ (l : List ℕ). length l) none_there in
            let cut = length-append (take n v.free) (drop n v.free) in
            let both = ap (λ (l : List ℕ). length l) (take-append-drop n v.free) in omega arith;
        fits = fits_same actor knows s.views p.history id v w at refl refl refl refl p.fits;
        owned = owned_same knows s.views p.history id v w at refl p.owned;
      } in
      let own_use : KeepsUse (bit_of p.uses) k.words s.words w = record {
        free = λ i r x. elim (at_either (drop n v.free) v.back i r x) [
          | inl c ↦ let d = at_drop n v.free i r c in own.free d.0 r (at_more v.free v.back d.0 r d.1)
          | inr c ↦ own.free (length v.free + c.0) r (at_after v.free v.back c.0 r c.1)
        ];
        begun = own.begun;
        knows = own.knows;
      } in
      pool_rule s k id w new s.homes (first_rooms n (free_chain v)) b.now b.uses b.rooms b.pool_is b.calm (inr packs)
      (λ i r a. let c = at_take n v.free i r a in own.free i r (at_more v.free v.back i r c.0)) own_use

  rest_given : (id n new : ℕ) (me : SeatState E) → me.0.back ≡ [] → me.0.known.share ≢ [] → Packs new (rest_rooms n (free_chain me.0)) → (s : TableState E) (k : RuleHolds s) → get_elem? s.views id ≡ some me.0 → word.pool s.words ≡ 0
      → RuleHolds (stepped s POOL new id me.1 (with_first_rooms n me.0) keeps)
  rest_given id n new me bare named packs s k at null =
      let v = me.0 in
      let q = plain_table s k in
      let p = k.plain in
      let own = mine s k id v at named in
      let w = with_first_rooms n v in
      let none_there = none_in_pool (word.pool s.words) p.pool k.word_is null in
      let R : OwnsRooms p.chain.owner id v.free = subst (OwnsRooms p.chain.owner id) (ap (λ l. v.free ++ l) bare ∙ append-nil v.free) (rooms_of q p id v at named) in
      let given : (i r : ℕ) → ItemAt (drop n v.free) i r → p.chain.owner r ≡ Spare id = λ i r a. let d = at_drop n v.free i r a in R.own d.0 r d.1 in
      let linked = p.linked id v at named in
      let b = pool_moved q p id v at named v.known refl (take n v.free) (leads (drop n v.free) v.end) v.back v.to (deal Pooled (drop n v.free) p.chain.owner) s.homes (rest_rooms n (free_chain v)) record {
        moves = record {
          fixed = λ r o e not_spare _. deal_fixed p.chain.owner id Pooled (drop n v.free) given r o e not_spare;
          others = λ j rooms ne S. deal_others p.chain.owner id Pooled (drop n v.free) given j rooms ne S;
          mine = subst (OwnsRooms (deal Pooled (drop n v.free) p.chain.owner) id) (sym (ap (λ l. take n v.free ++ l) bare ∙ append-nil (take n v.free))) (deal_first p.chain.owner id v.free R n Pooled);
        };
        slots = λ r _. refl;
        deep = refl;
        empty = empty_take s.homes n v.free (p.empty id v at named);
        linked = (links_take k.words v.free n v.end linked.0, linked.1);
        pooled = record {
          own = λ i r a. deal_here Pooled (drop n v.free) p.chain.owner i r a;
          once = λ i j r x y.
              let (a, here, e) = at_drop n v.free i r x in
              let (b, there, f) = at_drop n v.free j r y in
              let same = R.once a b r here there in omega arith;
          linked = links_drop k.words v.free n v.end linked.0;
          empty = empty_drop s.homes n v.free (p.empty id v at named);
        };
        even =
            let none_of = ap (λ (l : List ℕ). length l) none_there in
            let cut = length-append (take n v.free) (drop n v.free) in
            let both = ap (λ (l : List ℕ). length l) (take-append-drop n v.free) in omega arith;
        fits = fits_same actor knows s.views p.history id v w at refl refl refl refl p.fits;
        owned = owned_same knows s.views p.history id v w at refl p.owned;
      } in
      let own_use : KeepsUse (bit_of p.uses) k.words s.words w = record {
        free = λ i r x. elim (at_either (take n v.free) v.back i r x) [
          | inl c ↦ own.free i r (at_more v.free v.back i r (at_take n v.free i r c).0)
          | inr c ↦ own.free (length v.free + c.0) r (at_after v.free v.back c.0 r c.1)
        ];
        begun = own.begun;
        knows = own.knows;
      } in
      pool_rule s k id w new s.homes (rest_rooms n (free_chain v)) b.now b.uses b.rooms b.pool_is b.calm (inr packs)
      (λ i r a. let d = at_drop n v.free i r a in own.free d.0 r (at_more v.free v.back d.0 r d.1)) own_use

  -- a step that changes nothing
  unmoved : (id i : ℕ) (me : SeatState E) → me.0.known.share ≢ [] → (s : TableState E) (k : RuleHolds s) → get_elem? s.views id ≡ some me.0 → RuleHolds (stepped s i (get_or s.words i 0) id me.1 me.0 keeps)
  unmoved id i me named s k at =
      let v = me.0 in
      subst (λ ws. RuleHolds record { words = ws; homes = s.homes; views = set s.views id v }) (sym (set-get_or s.words i 0))
      (same_words s k (set s.views id v) s.homes (skip_kept (plain_table s k) k.plain id v at named)
      (one_set (λ _ u. u.known.share ≢ [] → KeepsUse (bit_of k.plain.uses) k.words s.words u) s.views id v (λ _. mine s k id v at named) (λ j u ne e some_name. k.spells.each j u e some_name)))

  -- the party is w where the pool had no room, and else as before
  exchanges : (slots id new : ℕ) (me : SeatState E) (w : View E) → me.0.known.share ≢ [] → ((s : TableState E) (k : RuleHolds s) → get_elem? s.views id ≡ some me.0 → word.pool s.words ≡ 0 → RuleHolds (stepped s POOL new id me.1 w keeps))
      → Allows RuleHolds slots id me POOL (λ m. either (eqb m 0) new m) (λ found k. (found ≡ 0 → (k.0 ≡ w) × (k.1 ≡ me.1)) × (found ≢ 0 → (k ≡ me) × LacksRooms slots me))
  exchanges slots id new me w named given s k deep at fits =
      let found : ℕ = word.pool s.words in
      let v = me.0 in
      dite (ℕ_discrete found 0)
      (λ null. (
        w,
        keeps,
        tt,
        subst (λ m. RuleHolds (stepped s POOL m id me.1 w keeps)) (sym (ap (λ b. either b new found) (eq-eqb found 0 null))) (given s k at null),
        (λ _. (refl, refl), λ ne. absurd (ne null)),
      ))
      (λ some_of. (
        v,
        keeps,
        tt,
        subst (λ m. RuleHolds (stepped s POOL m id me.1 v keeps)) (sym (ap (λ b. either b new found) (ne_eqb found 0 some_of))) (unmoved id POOL me named s k at),
        (λ e. absurd (some_of e), λ ne. (refl, λ is. subst (λ n. suc (length (held (plain v.known.seen)) + room_count v) < n) deep (lacks (plain_table s k) k.plain id v at (pool_some s k ne) is))),
      ))

  pub gives : (slots id n new : ℕ) (me : SeatState E) → me.0.back ≡ [] → me.0.known.share ≢ [] → Packs new (first_rooms n (free_chain me.0))
      → Allows RuleHolds slots id me POOL (λ m. either (eqb m 0) new m) (play.after_give_back n (step slots POOL 0 new none) me)
  gives slots id n new me bare named packs = exchanges slots id new me (record me.0 { free = drop n me.0.free }) named (gives_all id n new me bare named packs)

  pub gives_rest : (slots id n new : ℕ) (me : SeatState E) → me.0.back ≡ [] → me.0.known.share ≢ [] → Packs new (rest_rooms n (free_chain me.0))
      → Allows RuleHolds slots id me POOL (λ m. either (eqb m 0) new m) (play.after_give_rest n (step slots POOL 0 new none) me)
  gives_rest slots id n new me bare named packs = exchanges slots id new me (with_first_rooms n me.0) named (rest_given id n new me bare named packs)
