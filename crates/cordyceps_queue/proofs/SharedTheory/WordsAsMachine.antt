-- A change of a queue's words and views is a change of its machine.
use Rattle.std.proofs.Common.{◌≡◌, ◌≢◌, ℕ, suc, ◌+◌, ◌-◌, ◌<◌, length-set, List, [], ◌∷◌, ◌++◌, length, reverse, set, Option, Some, refl, sym, ap, ◌∙◌, subst, arith, get_or-set_other, ◌⊎◌, get_or}
use Rattle.std.proofs.lemmas.List.{reverse-append}
use mathlib.Core.Option.{some, none}
use mathlib.Core.Option as maybe
use mathlib.Core.Path.{fun_ext}
use native.Mathlib.Decide.{ℕ_discrete}
use lib.ListN.{get_elem?}
use Rattle.atomic_table.proofs.Lists.{set_here, set_else}
use Rattle.atomic_table.specs.Table.{Act, Valid, keeps, stepped, carried_after}
use Rattle.cordyceps_shared.specs.Words as word
use Rattle.cordyceps_shared.specs.declared.layout.TheConstants.{HEAD, LINKS}
use Rattle.cordyceps_shared.proofs.Words.{next_set, next_beside_next, head_set, right_beside_head, head_beside_next, right_beside_next}
use Rattle.cordyceps_shared.specs.Counts.{tally}
use Rattle.cordyceps_shared.specs.FreeChains.{Links}
use Rattle.cordyceps_shared.proofs.FreeLinks.{links_frame}
use Rattle.cordyceps_shared.proofs.Places.{times_at}
use Rattle.cordyceps_shared.specs.Histories.{events, of_seat}
use Rattle.cordyceps_shared.specs.Knowing.{Known, Under, all_seen}
use Rattle.cordyceps_shared.specs.Shares.{Name}
use Rattle.cordyceps_shared.proofs.ChangedItems.{one_set}
use Rattle.cordyceps_shared.proofs.Counting.{tally_set}
use Rattle.cordyceps_shared.proofs.HistoryMarks.{events_more}
use Rattle.cordyceps_shared.proofs.StepEvents.{at_length, tells}
use Rattle.cordyceps_queue.specs.declared.cores.stage.Stage.{Stage}
use Rattle.cordyceps_queue.specs.declared.cores.stage.Stage.TheVariants.{Rest, Cleared, Swapped, Holding, StubNull, Second, Null, PutClear, PutSwap, PutLink, PutRead}
use Rattle.cordyceps_queue.specs.Bells.{IsQuiet}
use Rattle.cordyceps_queue.specs.History.{Event, actor}
use Rattle.cordyceps_shared.specs.Places.{ItemAt}
use Rattle.cordyceps_queue.specs.Cores.Meets.{Owner, Spare, Ready, Pooled, Chain, AtStage, OwnsRooms, Meets, real}
use Rattle.cordyceps_queue.specs.Shared.Plays.{SeatState, LegalReversed, Sees}
use Rattle.cordyceps_shared.specs.Slots.{Homes, EmptyAtHome}
use Rattle.cordyceps_queue.specs.Shared.Rule.{TableState, link_of, party, party_if, party_of, machine_of, FullAtHome, AllEmptyAtHome, AllReady, AreLinked, IsPool, PlainHolds}
use Rattle.cordyceps_queue.specs.Shared.View.{View, knows, name, begun_count, room_count}
use Rattle.cordyceps_queue.specs.Cores.Abstract.{AbstractParty, AbstractMachine, update}
use Rattle.cordyceps_queue.proofs.CoreTheory.StepLeaves.{fits_as}
use Rattle.cordyceps_queue.proofs.CoreTheory.Basics.{put_same, put_other, at_more}
use Rattle.cordyceps_queue.proofs.SharedTheory.BellWord.{quiet_more}

pub at_after : {A : Type 0} (xs ys : List A) (i : ℕ) (a : A) → ItemAt ys i a → ItemAt (xs ++ ys) (length xs + i) a
at_after [] ys i a p = let e : i ≡ 0 + i = omega arith in subst (λ n. ItemAt ys n a) e p
at_after (x ∷ xs) ys i a p = let e : suc (length xs + i) ≡ suc (length xs) + i = omega arith in subst (λ n. ItemAt (x ∷ (xs ++ ys)) n a) e (at_after xs ys i a p)

-- events under this name that do not ring the bell
abbrev pub QuietUnder : {E : Type 0} → Name → List (Event Name E) → Type 0
QuietUnder n es = Under actor n es × IsQuiet es

-- the links that the words are
abbrev pub links : List ℕ → ℕ → Option ℕ
links words j = link_of (word.next words j)

-- a store to a link
pub links_put : (words : List ℕ) (r n : ℕ) → LINKS + r < length words → links (set words (LINKS + r) n) ≡ update (links words) r (link_of n)
links_put words r n lt = fun_ext (λ j. elim (ℕ_discrete j r) [
  | yes same ↦
      let here : links (set words (LINKS + r) n) r ≡ link_of n = ap link_of (next_set words r n lt) in
      subst (λ k. links (set words (LINKS + r) n) k ≡ update (links words) r (link_of n) k) (sym same) (here ∙ sym (put_same (links words) r (link_of n)))
  | no ne ↦ ap link_of (next_beside_next words r j n ne) ∙ sym (put_other (links words) r (link_of n) j ne)
])

-- a store to a word before the links leaves each
pub next_low : (words : List ℕ) (i n : ℕ) → i < LINKS → (r : ℕ) → word.next (set words i n) r ≡ word.next words r
next_low words i n low r = get_or-set_other words i (LINKS + r) n 0 (λ e. absurd (omega arith))

-- a store to head or the right leaves the links
pub links_same : (words : List ℕ) (i n : ℕ) → i < LINKS → links (set words i n) ≡ links words
links_same words i n lt = fun_ext (λ j. ap link_of (next_low words i n lt j))

named_party : (names : List Name) (p : AbstractParty Name) → names ≢ [] → party_if names p ≡ Some p
named_party [] p some_name = absurd (some_name refl)
named_party (n ∷ ns) p some_name = refl

-- a party at this stage has begun no use of a room
pub none_begun : (p : Stage) → ((q : ℕ) → p ≡ Cleared q → ⊥) → begun_count p ≡ 0
none_begun Rest away = refl
none_begun (Cleared r) away = absurd (away r refl)
none_begun (Swapped r old) away = refl
none_begun (Holding t) away = refl
none_begun StubNull away = refl
none_begun (Second t) away = refl
none_begun (Null t) away = refl
none_begun (PutClear t) away = refl
none_begun (PutSwap t) away = refl
none_begun (PutLink t old) away = refl
none_begun (PutRead t) away = refl

-- these rooms are of the chain that was, or the head
abbrev pub Among : List ℕ → List ℕ → List ℕ → Type 0
Among words was rooms = (i x : ℕ) → ItemAt rooms i x → (x ≡ word.head words) ⊎ ((j : ℕ) × ItemAt was j x)

module _ {E : Type 0} where
  -- the rooms that a party has were its own, or one is the tail that it passed
  abbrev pub Comes : (s : TableState E) → PlainHolds s → View E → View E → Type 0
  Comes s k v w = (i x : ℕ) → ItemAt (w.free ++ w.back) i x → ((j : ℕ) × ItemAt (v.free ++ v.back) j x) ⊎ (((j : ℕ) × ItemAt k.chain.rooms j x) × ((r : ℕ) × (word.next s.words x ≡ suc r)))

  -- what a step of a party leaves beside the parties' own: the pool, and the number of rooms
  pub record LeavesPool (s : TableState E) (k : PlainHolds s) (v w : View E) (words : List ℕ) (homes : Homes E) (chain : Chain) : Type 0 where
    pub owners : (r : ℕ) → k.chain.owner r ≡ Pooled → chain.owner r ≡ Pooled
    pub links : (r : ℕ) → k.chain.owner r ≡ Pooled → word.next words r ≡ word.next s.words r
    pub slots : (r : ℕ) → k.chain.owner r ≡ Pooled → get_elem? homes r ≡ get_elem? s.homes r
    pub even : length (real chain.rooms) + room_count w ≡ length (real k.chain.rooms) + room_count v

  -- the pool, where its rooms stay in it, and their links and slots are as they were
  pub pool_stays : (s : TableState E) (k : PlainHolds s) (owner : ℕ → Owner) (words : List ℕ) (homes : Homes E) → ((r : ℕ) → k.chain.owner r ≡ Pooled → owner r ≡ Pooled)
      → ((r : ℕ) → k.chain.owner r ≡ Pooled → word.next words r ≡ word.next s.words r) → ((r : ℕ) → k.chain.owner r ≡ Pooled → get_elem? homes r ≡ get_elem? s.homes r) → IsPool owner words homes k.pool
  pool_stays s k owner words homes owners links_stay slots = record {
    own = λ i r a. owners r (k.pooled.own i r a);
    once = k.pooled.once;
    linked = links_frame s.words words k.pool.rooms k.pool.end (λ r m. let t = times_at r k.pool.rooms m in links_stay r (k.pooled.own t.0 r t.1)) k.pooled.linked;
    empty = λ i r a. slots r (k.pooled.own i r a) ∙ k.pooled.empty i r a;
  }

  -- the number of rooms, and that a seat without a share has none, where a party keeps its number
  pub count_same : (views : List (View E)) (id : ℕ) (v w : View E) → get_elem? views id ≡ some v → room_count w ≡ room_count v → tally room_count (set views id w) ≡ tally room_count views
  count_same views id v w at same = omega (arith, tally_set (room_count {E = E}) views id v w at)

  pub spent_else : (s : TableState E) (k : PlainHolds s) (id : ℕ) (w : View E) → w.known.share ≢ [] → (j : ℕ) (u : View E) → get_elem? (set s.views id w) j ≡ some u → u.known.share ≡ [] → room_count u ≡ 0
  spent_else s k id w named = one_set (λ _ u. u.known.share ≡ [] → room_count u ≡ 0) s.views id w (λ none_of. absurd (named none_of)) (λ j u _ e. k.spent j u e)

  -- the plain rule after a step of a party whose view was v and is w
  pub record Becomes (s : TableState E) (k : PlainHolds s) (v w : View E) (t : TableState E) : Type 0 where
    pub now : PlainHolds t
    pub uses : now.uses ≡ k.uses
    pub pool : now.pool ≡ k.pool
    pub bits : w.bits ≡ k.uses
    pub rooms : Among t.words k.chain.rooms now.chain.rooms
    pub spare : Comes s k v w
    pub calm : IsQuiet (events k.history) → IsQuiet (events now.history)

  -- the plain rule after a step that leaves the chain
  pub record Stays (s : TableState E) (k : PlainHolds s) (t : TableState E) : Type 0 where
    pub now : PlainHolds t
    pub uses : now.uses ≡ k.uses
    pub pool : now.pool ≡ k.pool
    pub rooms : now.chain.rooms ≡ k.chain.rooms
    pub calm : IsQuiet (events k.history) → IsQuiet (events now.history)

  -- a step of a party by which the word i becomes n: its view after it, and the slots that it takes or gives back
  pub record PlainStep (s : TableState E) (k : PlainHolds s) (id i n : ℕ) (me : SeatState E) : Type 0 where
    pub view : View E
    pub act : Act (Option E)
    pub valid : Valid s.homes me.1 act
    pub becomes : Becomes s k me.0 view (stepped s i n id me.1 view act)

  -- a step that takes no slot and gives none back
  abbrev pub quiet : {s : TableState E} {k : PlainHolds s} {id i n : ℕ} {v : View E} (w : View E) → Becomes s k v w (stepped s i n id [] w keeps) → PlainStep s k id i n (v, [])
  quiet w becomes = record { view = w; act = keeps; valid = tt; becomes = becomes }

  -- what the plain rule allows a party, whatever the table is when the word i becomes f of what it was
  abbrev pub PlainAllows : ℕ → ℕ → SeatState E → ℕ → (ℕ → ℕ) → (ℕ → SeatState E → Type 0) → Type 0
  PlainAllows slots id me i f then = (s : TableState E) (k : PlainHolds s) → length s.homes ≡ slots → get_elem? s.views id ≡ some me.0
      → (c : PlainStep s k id i (f (get_or s.words i 0)) me)
      × then (get_or s.words i 0) (c.view, carried_after me.1 c.act)

  -- one view more or less is one party
  pub parties_put : (views : List (View E)) (id : ℕ) (w : View E) → id < length views → w.known.share ≢ [] → (λ k. party_of (get_elem? (set views id w) k)) ≡ update (λ k. party_of (get_elem? views k)) id (Some (party w))
  parties_put views id w lt some_name = fun_ext (λ j. elim (ℕ_discrete j id) [
    | yes same ↦
        let here : party_of (get_elem? (set views id w) id) ≡ Some (party w) = ap party_of (set_here views id w lt) ∙ named_party w.known.share (party w) some_name in
        subst (λ k. party_of (get_elem? (set views id w) k) ≡ update (λ k. party_of (get_elem? views k)) id (Some (party w)) k) (sym same)
        (here ∙ sym (put_same (λ k. party_of (get_elem? views k)) id (Some (party w))))
    | no ne ↦ ap party_of (set_else views id j w ne) ∙ sym (put_other (λ k. party_of (get_elem? views k)) id (Some (party w)) j ne)
  ])

  -- ---- the machine that the words spell after a store, or after none
  pub party_spelled : (words : List ℕ) (cell : ℕ → Option E) (views : List (View E)) {parties : ℕ → Option (AbstractParty Name)} → parties ≡ (λ j. party_of (get_elem? views j)) → record (machine_of cell words views) { party = parties } ≡ machine_of cell words views
  party_spelled words cell views is = ap (λ f. record (machine_of cell words views) { party = f }) is

  pub link_spelled : (words : List ℕ) (r n : ℕ) (cell : ℕ → Option E) (views : List (View E)) {parties : ℕ → Option (AbstractParty Name)} → LINKS + r < length words → parties ≡ (λ j. party_of (get_elem? views j)) → record (machine_of cell words views) { next = update (links words) r (link_of n); party = parties } ≡ machine_of cell (set words (LINKS + r) n) views
  link_spelled words r n cell views inside is i = record {
    head = sym (head_beside_next words r n) i;
    right = sym (right_beside_next words r n) i;
    count = ap (λ l. l - LINKS) (sym (length-set words (LINKS + r) n)) i;
    next = sym (links_put words r n inside) i;
    cell = cell;
    party = is i;
  }

  pub head_spelled : (words : List ℕ) (n : ℕ) (cell : ℕ → Option E) (views : List (View E)) {parties : ℕ → Option (AbstractParty Name)} → HEAD < length words → parties ≡ (λ j. party_of (get_elem? views j)) → record (machine_of cell words views) { head = n; party = parties } ≡ machine_of cell (set words HEAD n) views
  head_spelled words n cell views inside is i = record {
    head = sym (head_set words n inside) i;
    right = sym (right_beside_head words n) i;
    count = ap (λ l. l - LINKS) (sym (length-set words HEAD n)) i;
    next = sym (links_same words HEAD n (omega arith)) i;
    cell = cell;
    party = is i;
  }

  -- the rule after a step at which the party sees all and adds these events, and what it tells
  pub keeps_rule : (s : TableState E) (k : PlainHolds s) (id : ℕ) (es : List (Event Name E)) (v w : View E) (words : List ℕ) (homes : Homes E) (cell : ℕ → Option E) (chain : Chain) (m' : AbstractMachine Name E)
      → get_elem? s.views id ≡ some v → v.known.share ≢ [] → QuietUnder (name v) es → w.known ≡ all_seen id (k.history ++ of_seat id es) v.known.share
      → m' ≡ machine_of cell words (set s.views id w) → Meets m' chain (reverse es ++ reverse (events k.history))
      → length words ≡ length s.words → length homes ≡ length s.homes → FullAtHome homes cell chain.rooms → AllEmptyAtHome homes (set s.views id w) → AllReady cell (set s.views id w) → AreLinked words (set s.views id w)
      → w.bits ≡ k.uses → Among words k.chain.rooms chain.rooms → Comes s k v w → LeavesPool s k v w words homes chain → Becomes s k v w record { words = words; homes = homes; views = set s.views id w } × Sees v es w
  keeps_rule s k id es v w words homes cell chain m' at some_name under sees same met wide deep full empty ready linked bits rooms spare beside =
      let h = k.history ++ of_seat id es in
      let recent : reverse (events h) ≡ reverse es ++ reverse (events k.history) = ap (λ z. reverse z) (events_more k.history id es) ∙ reverse-append (events k.history) es in
      let meets : Meets (machine_of cell words (set s.views id w)) chain (reverse (events h)) =
      subst (λ l. Meets (machine_of cell words (set s.views id w)) chain l) (sym recent) (subst (λ n. Meets n chain (reverse es ++ reverse (events k.history))) same met) in
      let t = tells actor knows LegalReversed s.views k.history id es v w k.owned k.fits at some_name under.0 sees meets.legal in
      let was_wide = k.wide in
      let was_stub = k.stub in (
        record {
          now = record {
            uses = k.uses;
            history = h;
            cell = cell;
            chain = chain;
            pool = k.pool;
            meets = meets;
            wide = omega arith;
            stub = omega arith;
            full = full;
            empty = empty;
            ready = ready;
            linked = linked;
            pooled = pool_stays s k chain.owner words homes beside.owners beside.links beside.slots;
            all = let all = k.all in let even = beside.even in omega (arith, tally_set (room_count {E = E}) s.views id v w at);
            spent = spent_else s k id w (λ none_of. some_name (sym (ap (λ (z : Known (Event Name E)). z.share) sees) ∙ none_of));
            fits = t.fits;
            owned = t.owned;
          };
          uses = refl;
          pool = refl;
          bits = bits;
          rooms = rooms;
          spare = spare;
          calm = λ quiet. subst (λ l. IsQuiet l) (sym (events_more k.history id es)) (quiet_more (events k.history) es quiet under.1);
        },
        t.grown,
      )

  module _ (s : TableState E) (k : PlainHolds s) where
    abbrev pub core : AbstractMachine Name E
    core = machine_of k.cell s.words s.views

    pub party_at : (j : ℕ) (u : View E) → get_elem? s.views j ≡ some u → u.known.share ≢ [] → core.party j ≡ Some (party u)
    party_at j u at some_name = ap party_of at ∙ named_party u.known.share (party u) some_name

    pub party_as : (j : ℕ) (u : View E) → get_elem? s.views j ≡ some u → u.known.share ≢ [] → {stage : Stage} → u.stage ≡ stage → AtStage core.head core.next core.cell k.chain.owner k.chain.keeper k.chain.rooms (reverse (events k.history)) j (name u) stage
    party_as j u at some_name is = fits_as core k.chain (reverse (events k.history)) k.meets j (party u) (party_at j u at some_name) is

    pub rooms_of : (j : ℕ) (u : View E) → get_elem? s.views j ≡ some u → u.known.share ≢ [] → OwnsRooms k.chain.owner j (u.free ++ u.back)
    rooms_of j u at some_name = k.meets.rooms j (party u) (party_at j u at some_name)

    pub free_spare : (j : ℕ) (u : View E) (i r : ℕ) → get_elem? s.views j ≡ some u → u.known.share ≢ [] → ItemAt u.free i r → k.chain.owner r ≡ Spare j
    free_spare j u i r at some_name ir = (rooms_of j u at some_name).own i r (at_more u.free u.back i r ir)

    pub back_spare : (j : ℕ) (u : View E) (i r : ℕ) → get_elem? s.views j ≡ some u → u.known.share ≢ [] → ItemAt u.back i r → k.chain.owner r ≡ Spare j
    back_spare j u i r at some_name ir = (rooms_of j u at some_name).own (length u.free + i) r (at_after u.free u.back i r ir)

    -- a store to the link of a room that is none of these leaves them linked
    pub linked_else : (words rooms : List ℕ) (end x n : ℕ) → ((i : ℕ) → ItemAt rooms i x → ⊥) → Links words rooms end → Links (set words (LINKS + x) n) rooms end
    linked_else words rooms end x n away = links_frame words (set words (LINKS + x) n) rooms end (λ r m. let t = times_at r rooms m in next_beside_next words x r n (λ same. away t.0 (subst (ItemAt rooms t.0) same t.1)))

    -- the party's own links, after a store to that of a room that is not its own
    pub own_links : (id x n : ℕ) (v : View E) → get_elem? s.views id ≡ some v → v.known.share ≢ [] → (k.chain.owner x ≡ Spare id → ⊥) → Links (set s.words (LINKS + x) n) v.free v.end × Links (set s.words (LINKS + x) n) v.back v.to
    own_links id x n v at some_name away = let l = k.linked id v at some_name in (
      linked_else s.words v.free v.end x n (λ i a. away (free_spare id v i x at some_name a)) l.0,
      linked_else s.words v.back v.to x n (λ i a. away (back_spare id v i x at some_name a)) l.1,
    )

    -- a store to the link of a room that is no free room of another party
    pub linkeds : (id x n : ℕ) (w : View E) → Links (set s.words (LINKS + x) n) w.free w.end × Links (set s.words (LINKS + x) n) w.back w.to → ((j : ℕ) → j ≢ id → k.chain.owner x ≡ Spare j → ⊥) → AreLinked (set s.words (LINKS + x) n) (set s.views id w)
    linkeds id x n w mine apart = one_set (λ _ u. u.known.share ≢ [] → Links (set s.words (LINKS + x) n) u.free u.end × Links (set s.words (LINKS + x) n) u.back u.to) s.views id w (λ _. mine)
        (λ j u ne e some_name. own_links j x n u e some_name (apart j ne))

    -- a store to another word, or none
    low_links : (words rooms : List ℕ) (end i n : ℕ) → i < LINKS → Links words rooms end → Links (set words i n) rooms end
    low_links words rooms end i n low = links_frame words (set words i n) rooms end (λ r _. next_low words i n low r)

    pub linkeds_low : (id i n : ℕ) (w : View E) → i < LINKS → Links s.words w.free w.end × Links s.words w.back w.to → AreLinked (set s.words i n) (set s.views id w)
    linkeds_low id i n w low mine = one_set (λ _ u. u.known.share ≢ [] → Links (set s.words i n) u.free u.end × Links (set s.words i n) u.back u.to) s.views id w (λ _. (low_links s.words w.free w.end i n low mine.0, low_links s.words w.back w.to i n low mine.1))
        (λ j u ne e some_name. let l = k.linked j u e some_name in (low_links s.words u.free u.end i n low l.0, low_links s.words u.back u.to i n low l.1))

    pub linkeds_same : (id : ℕ) (w : View E) → Links s.words w.free w.end × Links s.words w.back w.to → AreLinked s.words (set s.views id w)
    linkeds_same id w mine = one_set (λ _ u. u.known.share ≢ [] → Links s.words u.free u.end × Links s.words u.back u.to) s.views id w (λ _. mine) (λ j u ne e some_name. k.linked j u e some_name)

    -- one slot changes, which is of no free room of another party
    pub empties : (id r : ℕ) (y : maybe.Option (Option E)) (w : View E) → EmptyAtHome (set s.homes r y) w.free → ((j : ℕ) → j ≢ id → k.chain.owner r ≡ Spare j → ⊥) → AllEmptyAtHome (set s.homes r y) (set s.views id w)
    empties id r y w mine apart = one_set (λ _ u. u.known.share ≢ [] → EmptyAtHome (set s.homes r y) u.free) s.views id w (λ _. mine)
        (λ j u ne e some_name i x ix. set_else s.homes r x y (λ same. apart j ne (ap k.chain.owner (sym same) ∙ free_spare j u i x e some_name ix)) ∙ k.empty j u e some_name i x ix)

    -- no slot changes
    pub empties_same : (id : ℕ) (w : View E) → EmptyAtHome s.homes w.free → AllEmptyAtHome s.homes (set s.views id w)
    empties_same id w mine = one_set (λ _ u. u.known.share ≢ [] → EmptyAtHome s.homes u.free) s.views id w (λ _. mine) (λ j u _ e some_name. k.empty j u e some_name)

    -- the rooms of the chain have slots
    pub chain_near : (i r : ℕ) → ItemAt k.chain.rooms i r → r < length s.homes
    chain_near i r ir = elim (ℕ_discrete r 0) [
      | yes e ↦ let l = k.stub in omega arith
      | no ne ↦ at_length s.homes r (some (k.cell r)) (k.full i r ir ne)
    ]

    pub head_near : word.head s.words < length s.homes
    head_near = chain_near k.meets.last.at (word.head s.words) k.meets.last.head_at

    -- the room of which another party, or this one before the step, has begun a use is that party's alone
    ready_owner : (j : ℕ) (u : View E) (r : ℕ) → get_elem? s.views j ≡ some u → u.known.share ≢ [] → u.stage ≡ Cleared r → k.chain.owner r ≡ Ready j
    ready_owner j u r at some_name is = (party_as j u at some_name is).ready

    -- what rooms have changes in one room, of which no other party has begun a use, or in none
    pub readies : (id r : ℕ) (y : Option E) (w : View E) → ((q : ℕ) → w.stage ≡ Cleared q → update k.cell r y q ≡ w.item) → ((j : ℕ) → j ≢ id → k.chain.owner r ≡ Ready j → ⊥) → AllReady (update k.cell r y) (set s.views id w)
    readies id r y w mine apart j u q = one_set (λ _ z. z.known.share ≢ [] → z.stage ≡ Cleared q → update k.cell r y q ≡ z.item) s.views id w (λ _ is. mine q is)
        (λ i z ne e some_name is. put_other k.cell r y q (λ same. apart i ne (ap k.chain.owner (sym same) ∙ ready_owner i z q e some_name is)) ∙ k.ready i z q e some_name is)
        j u

    pub readies_same : (id : ℕ) (w : View E) → ((q : ℕ) → w.stage ≡ Cleared q → ⊥) → AllReady k.cell (set s.views id w)
    readies_same id w mine j u q = one_set (λ _ z. z.known.share ≢ [] → z.stage ≡ Cleared q → k.cell q ≡ z.item) s.views id w (λ _ is. absurd (mine q is)) (λ i z _ e some_name is. k.ready i z q e some_name is) j u
