-- The steps of a party that dequeues keep the rule of a queue's table. Each is proved where no slot is in hand; `returning`
-- adds that one is given back first.
use Rattle.std.proofs.Common.{◌≡◌, ◌≢◌, ℕ, zero, suc, ◌+◌, ◌-◌, List, [], ◌∷◌, ◌++◌, drop, length, reverse, set, get_or}
use Rattle.std.proofs.Common.{append-nil, Some, None, refl, sym, ap, ◌∙◌, subst, inl, inr, arith, length-set}
use Rattle.std.proofs.lemmas.List.{reverse-append}
use mathlib.Core.Option.{some, none}
use mathlib.Core.Path.{fun_ext}
use native.Mathlib.Decide.{ℕ_discrete}
use lib.ListN.{get_elem?}
use lib.Seq.{set-get_or}
use Rattle.atomic_table.specs.Table.{takes, carried_after}
use Rattle.atomic_table.proofs.Lists.{set_else}
use Rattle.cordyceps_shared.specs.Words as word
use Rattle.cordyceps_shared.specs.declared.layout.TheConstants.{RIGHT, LINKS}
use Rattle.cordyceps_shared.proofs.Words.{right_set, head_beside_right}
use Rattle.cordyceps_shared.specs.Histories.{events, of_seat}
use Rattle.cordyceps_shared.specs.Shares.{Name}
use Rattle.cordyceps_shared.proofs.StepEvents.{under_append}
use Rattle.cordyceps_shared.proofs.HistoryMarks.{events_more, plain_marked}
use Rattle.cordyceps_queue.specs.declared.cores.stage.Stage.{Stage}
use Rattle.cordyceps_queue.specs.declared.cores.stage.Stage.TheVariants.{Cleared, Holding, Null}
use Rattle.cordyceps_shared.specs.FreeChains.{end_after}
use Rattle.cordyceps_queue.specs.History.{Event, actor}
use Rattle.cordyceps_shared.specs.Places.{ItemAt}
use Rattle.cordyceps_queue.specs.Cores.Meets.{Spare, Shared, Pooled, OwnsRooms, Chain, Owes, tail_of, Meets, real}
use Rattle.cordyceps_queue.specs.Past.{HasLooked, WasBlockedReversed}
use Rattle.cordyceps_queue.specs.Shared.Plays.{SeatState, Sees, MovesTo, HandsOut, Blocked}
use Rattle.cordyceps_shared.specs.Slots.{Homes, EmptyAtHome}
use Rattle.cordyceps_queue.specs.Shared.Rule.{TableState, link_of, party, machine_of, FullAtHome, PlainHolds}
use Rattle.cordyceps_queue.specs.Shared.View.{View, name, begun_count}
use Rattle.cordyceps_queue.specs.Cores.Abstract.{AbstractParty, AbstractMachine, update, insert_room, set_stage, set_right, hand_out}
use Rattle.cordyceps_queue.proofs.CoreTheory.Basics.{at_only, none_some, zero_suc, suc_zero, suc_inj, some_inj, at_split, at_more, put_same, put_other}
use Rattle.cordyceps_queue.proofs.CoreTheory.DequeueSteps.{out_keeps, chain_after_out}
use Rattle.cordyceps_queue.proofs.CoreTheory.HolderSteps.{was_now, keeping, stage_keeps, open_blocks}
use Rattle.cordyceps_queue.proofs.CoreTheory.SpareMoves.{moves_keep}
use Rattle.cordyceps_queue.proofs.CoreTheory.SplitParties.{deal_behind}
use Rattle.cordyceps_queue.proofs.CoreTheory.ProducerSteps.{spare_shared, ready_shared, shared_pooled}
use Rattle.cordyceps_queue.proofs.CoreTheory.ChainShrinks.{at_down, real_first, tail_full, tail_away, second}
use Rattle.cordyceps_queue.proofs.SharedTheory.SeatNames.{few_rooms}
use Rattle.cordyceps_queue.proofs.SharedTheory.BellWord.{quiet_more}
use Rattle.cordyceps_queue.proofs.SharedTheory.WordsAsMachine.{QuietUnder, quiet, party_spelled, links_same, next_low, none_begun, keeps_rule, rooms_of}
use Rattle.cordyceps_queue.proofs.SharedTheory.WordsAsMachine.{empties, empties_same, readies, readies_same}
use Rattle.cordyceps_queue.proofs.SharedTheory.WordsAsMachine.{linkeds_low, linkeds_same, chain_near, LeavesPool}
use Rattle.cordyceps_queue.proofs.SharedTheory.WordsAsMachine.{PlainStep, Becomes, Comes as Keeping}
use Rattle.cordyceps_queue.proofs.SharedTheory.EnqueueKeeps.{m, past, here, view_after, views_put, wide_words}

put_twice : {A : Type 0} (f : ℕ → A) (k : ℕ) (v w : A) → update (update f k v) k w ≡ update f k w
put_twice f k v w = fun_ext (λ j. elim (ℕ_discrete j k) [
  | yes same ↦ subst (λ i. update (update f k v) k w i ≡ update f k w i) (sym same) (put_same (update f k v) k w ∙ sym (put_same f k w))
  | no ne ↦ put_other (update f k v) k w j ne ∙ (put_other f k v j ne ∙ sym (put_other f k w j ne))
])

-- what a word is whose link is a room
linked_word : (n r : ℕ) → link_of n ≡ Some r → n ≡ suc r
linked_word zero r e = absurd (cc)
linked_word (suc n) r e = ap suc (some_inj e)

module _ {E : Type 0} (s : TableState E) (k : PlainHolds s) (id : ℕ) (v : View E) (at : get_elem? s.views id ≡ some v) (named : v.known.share ≢ []) (bare : v.back ≡ []) where
  abbrev pub n : AbstractMachine Name E
  n = m s k id v at named

  abbrev pub out_events : List (Event Name E)
  out_events = past s k id v at named

  pub there : n.party id ≡ Some (party v)
  there = here s k id v at named

  abbrev pub sees : List (Event Name E) → List ℕ → ℕ → List ℕ → ℕ → Stage → View E
  sees es free end back to stage = view_after s k id v at named es free end back to stage None

  -- the rooms of one chain are rooms of another
  abbrev pub Among : List ℕ → List ℕ → Type 0
  Among xs ys = (i x : ℕ) → ItemAt xs i x → (j : ℕ) × ItemAt ys j x

  full_among : (rooms : List ℕ) → Among rooms k.chain.rooms → FullAtHome s.homes k.cell rooms
  full_among rooms among i x ix ne = let a = among i x ix in k.full a.0 x a.1 ne

  -- a step that leaves whose the rooms are and the slots, at a stage at which it has begun no use of a room
  pub leaves_rooms : (es : List (Event Name E)) (stage : Stage) (chain : Chain) (words : List ℕ) → ((q : ℕ) → stage ≡ Cleared q → ⊥) → begun_count v.stage ≡ 0 → length (real chain.rooms) ≡ length (real k.chain.rooms)
      → ((r : ℕ) → k.chain.owner r ≡ Pooled → chain.owner r ≡ Pooled) → ((r : ℕ) → k.chain.owner r ≡ Pooled → word.next words r ≡ word.next s.words r) → LeavesPool s k v (sees es v.free v.end v.back v.to stage) words s.homes chain
  leaves_rooms es stage chain words away quiet even owners links =
      let now = none_begun stage away in record {
        owners = owners;
        links = links;
        slots = λ r pooled. refl;
        even = omega arith;
      }

  -- a step that changes no word and no slot
  pub reads : (es : List (Event Name E)) → QuietUnder (name v) es → (stage : Stage) (chain : Chain) → Meets (set_stage n id (party v) stage) chain (reverse es ++ out_events) → Among chain.rooms k.chain.rooms → ((q : ℕ) → stage ≡ Cleared q → ⊥) → begun_count v.stage ≡ 0 → length (real chain.rooms) ≡ length (real k.chain.rooms) → ((r : ℕ) → k.chain.owner r ≡ Pooled → chain.owner r ≡ Pooled) → (i : ℕ)
      → Becomes s k v (sees es v.free v.end v.back v.to stage) record { words = set s.words i (get_or s.words i 0); homes = s.homes; views = set s.views id (sees es v.free v.end v.back v.to stage) } × Sees v es (sees es v.free v.end v.back v.to stage)
  reads es under stage chain met among away quiet even owners i =
      let w = sees es v.free v.end v.back v.to stage in
      let same : set_stage n id (party v) stage ≡ machine_of k.cell s.words (set s.views id w) = party_spelled s.words k.cell (set s.views id w) (views_put s k id v at named w named) in
      let r = keeps_rule s k id es v w s.words s.homes k.cell chain (set_stage n id (party v) stage) at named under refl same met refl refl (full_among chain.rooms among) (empties_same s k id w (k.empty id v at named)) (readies_same s k id w away) (linkeds_same s k id w (k.linked id v at named)) refl (λ j x jx. inr (among j x jx)) (λ j x jx. inl (j, jx)) (leaves_rooms es stage chain s.words away quiet even owners (λ _ _. refl)) in
      (subst (λ (ws : List ℕ). Becomes s k v w record { words = ws; homes = s.homes; views = set s.views id w }) (sym (set-get_or s.words i 0)) r.0, r.1)

  -- the right changes
  pub rights : (es : List (Event Name E)) → QuietUnder (name v) es → (stage : Stage) (chain : Chain) (right : ℕ) → Meets (set_right n id (party v) right stage) chain (reverse es ++ out_events) → Among chain.rooms k.chain.rooms → ((q : ℕ) → stage ≡ Cleared q → ⊥) → begun_count v.stage ≡ 0 → length (real chain.rooms) ≡ length (real k.chain.rooms) → ((r : ℕ) → k.chain.owner r ≡ Pooled → chain.owner r ≡ Pooled)
      → Becomes s k v (sees es v.free v.end v.back v.to stage) record { words = set s.words RIGHT right; homes = s.homes; views = set s.views id (sees es v.free v.end v.back v.to stage) } × Sees v es (sees es v.free v.end v.back v.to stage)
  rights es under stage chain right met among away quiet even owners =
      let w = sees es v.free v.end v.back v.to stage in
      keeps_rule s k id es v w (set s.words RIGHT right) s.homes k.cell chain (set_right n id (party v) right stage) at named under refl spelled met (length-set s.words RIGHT right) refl (full_among chain.rooms among) (empties_same s k id w (k.empty id v at named)) (readies_same s k id w away) (linkeds_low s k id RIGHT right w (omega arith) (k.linked id v at named)) refl (λ j x jx. inr (among j x jx)) (λ j x jx. inl (j, jx)) (leaves_rooms es stage chain (set s.words RIGHT right) away quiet even owners (λ r _. next_low s.words RIGHT right (omega arith) r))
    where
      spelled : set_right n id (party v) right stage ≡ machine_of k.cell (set s.words RIGHT right) (set s.views id (sees es v.free v.end v.back v.to stage))
      spelled j = record {
        head = sym (head_beside_right s.words right) j;
        right = sym (right_set s.words right (let w = wide_words s k id v at named in omega arith)) j;
        count = ap (λ l. l - LINKS) (sym (length-set s.words RIGHT right)) j;
        next = sym (links_same s.words RIGHT right (omega arith)) j;
        cell = k.cell;
        party = views_put s k id v at named (sees es v.free v.end v.back v.to stage) named j;
      }

  -- the tail's element is handed out, after these events
  module _ (before : List (Event Name E)) (under : QuietUnder (name v) before) (M : Meets n k.chain (reverse before ++ out_events)) (t r : ℕ) (has : tail_of v.stage ≡ Some t) (nothing : (a b : ℕ) → Owes v.stage a b → ⊥) (is_real : t ≢ 0) (linked : n.next t ≡ Some r) (e : E) (full : k.cell t ≡ Some e) where
    abbrev pub all : List (Event Name E)
    all = before ++ Event.Out (name v) e ∷ []

    abbrev pub out_view : View E
    out_view = sees all v.free v.end (t ∷ []) (suc r) (Holding r)

    abbrev next_chain : Chain
    next_chain = chain_after_out n k.chain (reverse before ++ out_events) M id (party v) there t r has nothing is_real linked e full

    abbrev homes_out : Homes E
    homes_out = set s.homes t none

    tail_at : ItemAt k.chain.rooms 0 t
    tail_at = (keeping n k.chain (reverse before ++ out_events) M id (party v) there t has).tail

    tail_shared : k.chain.owner t ≡ Shared
    tail_shared = M.shared 0 t tail_at

    free_rooms : OwnsRooms k.chain.owner id v.free
    free_rooms = subst (OwnsRooms k.chain.owner id) (ap (λ l. v.free ++ l) bare ∙ append-nil v.free) (rooms_of s k id v at named)

    new_rooms : OwnsRooms next_chain.owner id (v.free ++ t ∷ [])
    new_rooms = deal_behind k.chain.owner id v.free (t ∷ []) free_rooms (λ i x a free. spare_shared free (ap k.chain.owner (at_only t i x a).1 ∙ tail_shared))
        (λ i j x a b. (at_only t i x a).0 ∙ sym (at_only t j x b).0)

    abbrev handed_machine : AbstractMachine Name E
    handed_machine = hand_out n id (party v) t r

    abbrev handed_party : AbstractParty Name
    handed_party = record { name = name v; stage = Holding r; spare = insert_room t (v.free ++ v.back) }

    abbrev freed_machine : AbstractMachine Name E
    freed_machine = record handed_machine { party = update handed_machine.party id (Some (party out_view)) }

    met : Meets freed_machine next_chain (Event.Out (name v) e ∷ (reverse before ++ out_events))
    met = moves_keep handed_machine next_chain (Event.Out (name v) e ∷ (reverse before ++ out_events)) (out_keeps n k.chain (reverse before ++ out_events) M id (party v) there t r has nothing is_real linked e full)
        id handed_party (put_same n.party id (Some handed_party)) next_chain.owner (v.free ++ t ∷ []) record { fixed = λ x o e _ _. e; others = λ j rooms _ R. R; mine = new_rooms }

    spelled_out : freed_machine ≡ machine_of (update k.cell t None) s.words (set s.views id out_view)
    spelled_out = party_spelled s.words (update k.cell t None) (set s.views id out_view) (put_twice n.party id (Some handed_party) (Some (party out_view)) ∙ views_put s k id v at named out_view named)

    out_full : FullAtHome homes_out (update k.cell t None) next_chain.rooms
    out_full i x ix ne =
        let away : x ≢ t = λ same. tail_away n k.chain (reverse before ++ out_events) M t r tail_at linked i (subst (ItemAt next_chain.rooms i) same ix) in
        set_else s.homes t x none away ∙ (k.full (suc i) x (at_down k.chain.rooms i x ix) ne ∙ ap (λ o. some (some o)) (sym (put_other k.cell t None x away)))

    out_empty : EmptyAtHome homes_out v.free
    out_empty i x ix = set_else s.homes t x none (λ same. spare_shared (free_rooms.own i x ix) (ap k.chain.owner same ∙ tail_shared)) ∙ k.empty id v at named i x ix

    out_spare : Keeping s k v out_view
    out_spare j x jx = elim (at_split v.free t j x jx) [
      | inl a ↦ inl (j, at_more v.free v.back j x a)
      | inr a ↦ inr ((0, subst (ItemAt k.chain.rooms 0) (sym a.1) tail_at), (r, subst (λ z. word.next s.words z ≡ suc r) (sym a.1) (linked_word (word.next s.words t) r linked)))
    ]

    out_leaves : LeavesPool s k v out_view s.words homes_out next_chain
    out_leaves =
        let first = ap (λ (l : List ℕ). length l) (real_first k.chain.rooms t is_real tail_at) in
        let none_back = ap (λ (l : List ℕ). length l) bare in
        let quiet = none_begun v.stage (λ q e. none_some (sym (ap tail_of e) ∙ has)) in record {
          owners = λ x pooled. put_other k.chain.owner t (Spare id) x (not_tail x pooled) ∙ pooled;
          links = λ x pooled. refl;
          slots = λ x pooled. set_else s.homes t x none (not_tail x pooled);
          even = omega arith;
        }
      where
        not_tail : (x : ℕ) → k.chain.owner x ≡ Pooled → x ≢ t
        not_tail x pooled same = shared_pooled tail_shared (ap k.chain.owner (sym same) ∙ pooled)

    out_kept : (i : ℕ) → Becomes s k v out_view record { words = set s.words i (get_or s.words i 0); homes = homes_out; views = set s.views id out_view } × Sees v all out_view
    out_kept i =
        let h = ap (λ l. l ++ out_events) (reverse-append before (Event.Out (name v) e ∷ [])) in
        let kept = keeps_rule s k id all v out_view s.words homes_out (update k.cell t None) next_chain freed_machine at named (under_append actor (name v) before (Event.Out (name v) e ∷ []) under.0 (refl, tt), quiet_more before (Event.Out (name v) e ∷ []) under.1 refl) refl spelled_out (subst (Meets freed_machine next_chain) (sym h) met) refl (length-set s.homes t none) out_full
        (empties s k id t none out_view out_empty (λ j ne mine. spare_shared mine tail_shared))
        (readies s k id t None out_view (λ q is. cc) (λ j ne mine. ready_shared mine tail_shared)) (linkeds_same s k id out_view ((k.linked id v at named).0, (linked_word (word.next s.words t) r linked, tt)))
        refl (λ j x jx. inr (suc j, at_down k.chain.rooms j x jx)) out_spare out_leaves in
        (subst (λ (ws : List ℕ). Becomes s k v out_view record { words = ws; homes = homes_out; views = set s.views id out_view }) (sym (set-get_or s.words i 0)) kept.0, kept.1)

  -- ---- what the steps tell
  pub stood : (es : List (Event Name E)) (stage : Stage) → Sees v es (sees es v.free v.end v.back v.to stage)
      → MovesTo es stage (v, []) (sees es v.free v.end v.back v.to stage, [])
  stood es stage adds = record {
    stage = refl;
    back = bare;
    free = sym (ap (λ l. v.free ++ l) bare ∙ append-nil v.free);
    hand = refl;
    sees = adds;
    end = sym (ap (λ l. end_after v.end l v.to) bare);
  }

  pub blocked : (es : List (Event Name E)) (stage : Stage) → WasBlockedReversed (name v) (reverse es ++ out_events) → Blocked (sees es v.free v.end v.back v.to stage)
  blocked es stage was = subst (WasBlockedReversed (name v)) (sym (ap (λ z. reverse z) (plain_marked id (k.history ++ of_seat id es)) ∙ (ap (λ z. reverse z) (events_more k.history id es) ∙ reverse-append (events k.history) es))) was

  pub same_rooms : Among k.chain.rooms k.chain.rooms
  same_rooms i x ix = (i, ix)

  pub less_rooms : Among (drop 1 k.chain.rooms) k.chain.rooms
  less_rooms i x ix = (suc i, at_down k.chain.rooms i x ix)

  -- what a step comes to
  abbrev pub Comes : ℕ → ℕ → (ℕ → SeatState E → Type 0) → Type 0
  Comes i new then =
      (c : PlainStep s k id i new (v, [])) × then (get_or s.words i 0) (c.view, carried_after [] c.act)

  -- a load after which the party is at this stage, and that changes nothing else
  abbrev pub loads_to : (es : List (Event Name E)) → QuietUnder (name v) es → (stage : Stage) → Meets (set_stage n id (party v) stage) k.chain (reverse es ++ out_events) → ((q : ℕ) → stage ≡ Cleared q → ⊥) → begun_count v.stage ≡ 0 → (i : ℕ)
      → Comes i (get_or s.words i 0) (λ _. MovesTo es stage (v, []))
  loads_to es under stage M away unbegun i =
      let r = reads es under stage k.chain M same_rooms away unbegun refl (λ x pooled. pooled) i in
      (quiet (sees es v.free v.end v.back v.to stage) r.0, stood es stage r.1)

  -- with the tail's link a room: the element is handed out
  pub hands : (before : List (Event Name E)) (under : QuietUnder (name v) before) (M : Meets n k.chain (reverse before ++ out_events)) (t r i : ℕ) (has : tail_of v.stage ≡ Some t) (nothing : (a b : ℕ) → Owes v.stage a b → ⊥) (is_real : t ≢ 0) (linked : n.next t ≡ Some r) (slots : ℕ) → length s.homes ≡ slots
      → Comes i (get_or s.words i 0) (λ _. HandsOut before slots t r (v, []))
  hands before under M t r i has nothing is_real linked slots deep =
      let first : ItemAt k.chain.rooms 0 t = (keeping n k.chain (reverse before ++ out_events) M id (party v) there t has).tail in
      let f = tail_full n k.chain (reverse before ++ out_events) M t is_real first in
      let e = f.first in
      let near_t = chain_near s k 0 t first in
      let near_r = chain_near s k 1 r (second n k.chain (reverse before ++ out_events) M t r first linked) in
      let o = out_kept before under M t r has nothing is_real linked e f.cell i in (
        record {
          view = out_view before under M t r has nothing is_real linked e f.cell;
          act = takes t (Some e);
          valid = k.full 0 t first is_real ∙ ap (λ x. some (some x)) f.cell;
          becomes = o.0;
        },
        record {
          element = e;
          stage = refl;
          back = refl;
          free = sym (ap (λ l. v.free ++ l) bare ∙ append-nil v.free);
          hand = refl;
          near = omega arith;
          inside = omega arith;
          sees = o.1;
          few = let few = few_rooms s k id v at named in omega arith;
          end = sym (ap (λ l. end_after v.end l v.to) bare);
          to = refl;
        },
      )

  -- with the tail's link null
  nulls : (before : List (Event Name E)) (under : QuietUnder (name v) before) (M : Meets n k.chain (reverse before ++ out_events)) (t i : ℕ) (has : tail_of v.stage ≡ Some t) (nothing : (a b : ℕ) → Owes v.stage a b → ⊥) (is_real : t ≢ 0) → HasLooked (name v) (reverse before ++ out_events) → n.next t ≡ None
      → Comes i (get_or s.words i 0) (λ _. MovesTo before (Null t) (v, []))
  nulls before under M t i has nothing is_real looked open_link =
      let h = reverse before ++ out_events in
      let met = stage_keeps n k.chain h M id (party v) there t has (Null t) refl (λ a b o. absurd (nothing a b o)) (
        record { keeps = keeping n k.chain h M id (party v) there t has; is_real = is_real; looked = looked },
        (λ far. was_now (name v) h looked (open_blocks n k.chain h M id (party v) there t has nothing open_link far)),
      ) in
      loads_to before under (Null t) met (λ q is. cc) (none_begun v.stage (λ q e. none_some (sym (ap tail_of e) ∙ has))) i

  -- the read of a tail's link that is no stub
  abbrev pub ReadsTail : List (Event Name E) → ℕ → ℕ → ℕ → SeatState E → Type 0
  ReadsTail before slots t found w = (found ≡ 0 → MovesTo before (Null t) (v, []) w)
      × ((r : ℕ) → found ≡ suc r → HandsOut before slots t r (v, []) w)

  pub reading : (before : List (Event Name E)) (under : QuietUnder (name v) before) (M : Meets n k.chain (reverse before ++ out_events)) (t i : ℕ) (has : tail_of v.stage ≡ Some t) (nothing : (a b : ℕ) → Owes v.stage a b → ⊥) (is_real : t ≢ 0) → HasLooked (name v) (reverse before ++ out_events)
      → i ≡ LINKS + t → (slots : ℕ) → length s.homes ≡ slots → (x : ℕ) → get_or s.words i 0 ≡ x → Comes i (get_or s.words i 0) (ReadsTail before slots t)
  reading before under M t i has nothing is_real looked is slots deep zero e =
      let here_is : word.next s.words t ≡ get_or s.words i 0 = ap (λ q. get_or s.words q 0) (sum is) in
      let c = nulls before under M t i has nothing is_real looked (ap link_of (here_is ∙ e)) in
      (c.0, ((λ _. c.1), λ r f. absurd (zero_suc (sym e ∙ f))))
    where
      sum : i ≡ LINKS + t → LINKS + t ≡ i
      sum a = omega arith
  reading before under M t i has nothing is_real looked is slots deep (suc r) e =
      let here_is : word.next s.words t ≡ get_or s.words i 0 = ap (λ q. get_or s.words q 0) (sum is) in
      let c = hands before under M t r i has nothing is_real (ap link_of (here_is ∙ e)) slots deep in (
        c.0,
        (
          (λ f. absurd (suc_zero (sym e ∙ f))),
          λ r' f. subst
              (λ q. HandsOut before slots t q (v, []) (c.0.view, carried_after [] c.0.act)) (suc_inj (sym e ∙ f)) c.1,
        ),
      )
    where
      sum : i ≡ LINKS + t → LINKS + t ≡ i
      sum a = omega arith
