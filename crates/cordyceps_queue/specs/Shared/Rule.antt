-- The rule of a queue's table, which each step of each party keeps.
use Rattle.std.specs.Prelude.{◌≡◌, ◌≢◌, ℕ, zero, suc, ◌+◌, ◌-◌, ◌≤◌, List, [], ◌∷◌, ◌++◌, length, reverse, Option, Some}
use Rattle.std.specs.Prelude.{None, slice_index}
use mathlib.Core.Option.{some, none}
use mathlib.Core.Option as maybe
use lib.ListN.{get_elem?}
use Rattle.atomic_table.specs.Table.{State}
use Rattle.atomic_table.specs.Seated.{TableId}
use Rattle.cordyceps_base.specs.declared.shared.TheConstants.{MAX_ROOMS}
use Rattle.cordyceps_shared.specs.Counts.{tally}
use Rattle.cordyceps_shared.specs.FreeChains.{FreeChain, Links}
use Rattle.cordyceps_shared.specs.Histories.{events}
use Rattle.cordyceps_shared.specs.Knowing.{SharesDisjoint, AllAgree}
use Rattle.cordyceps_shared.specs.Pools.{LeadsTo}
use Rattle.cordyceps_shared.specs.Shares.{Name}
use Rattle.cordyceps_shared.specs.Words as word
use Rattle.cordyceps_shared.specs.declared.layout.TheConstants.{LINKS}
use Rattle.cordyceps_queue.specs.declared.cores.stage.Stage.TheVariants.{Cleared}
use Rattle.cordyceps_queue.specs.declared.shared.bell.TheConstants.{BELL}
use Rattle.cordyceps_shared.specs.Slots.{Homes, EmptyAtHome}
use Rattle.cordyceps_queue.specs.Bells.{IsQuiet}
use Rattle.cordyceps_queue.specs.History.{Event, actor}
use Rattle.cordyceps_shared.specs.Places.{ItemAt}
use Rattle.cordyceps_queue.specs.Cores.Meets.{Owner, Pooled, Chain, Meets, real}
use Rattle.cordyceps_queue.specs.Shared.Bits.{SpellsFree, SpellsWords}
use Rattle.cordyceps_queue.specs.Shared.View.{View, knows, name, bit_of, room_count}
use Rattle.cordyceps_queue.specs.Cores.Abstract.{AbstractParty, AbstractMachine}

abbrev pub TableState : Type 0 → Type 0
TableState E = State (Option E) (View E)

-- each event with the seat of its party, the oldest first
abbrev pub History : Type 0 → Type 0
History E = List (ℕ × Event Name E)

-- a word of a link: 0 is null, else it is 1 more than a room
abbrev pub link_of : ℕ → Option ℕ
link_of zero = None
link_of (suc r) = Some r

-- the word of the bell: 1 if it is rung, 0 if not, and 2 if not and a party sleeps
abbrev pub bell : List ℕ → ℕ
bell words = slice_index words BELL

-- a seat without a share is no party
abbrev pub party_if : List Name → AbstractParty Name → Option (AbstractParty Name)
party_if [] p = None
party_if (n ∷ ns) p = Some p

module _ {E : Type 0} where
  -- the party as the core's machine has it: a room whose slot has yet to be given back is free already
  abbrev pub party : View E → AbstractParty Name
  party v = record { name = name v; stage = v.stage; spare = v.free ++ v.back }

  abbrev pub party_of : maybe.Option (View E) → Option (AbstractParty Name)
  party_of none = None
  party_of (some v) = party_if v.known.share (party v)

  -- The machine that the plain words and the views spell, one of the four readings at the head of Cores/Machine. What
  -- the rooms have is an argument, since a slot may be out with a seat.
  abbrev pub machine_of : (ℕ → Option E) → List ℕ → List (View E) → AbstractMachine Name E
  machine_of cell words views = record {
    head = word.head words;
    right = word.right words;
    count = length words - LINKS;
    next = λ r. link_of (word.next words r);
    cell = cell;
    party = λ k. party_of (get_elem? views k);
  }

  -- the slots of the chain's rooms are at home, each with its element
  abbrev pub FullAtHome : Homes E → (ℕ → Option E) → List ℕ → Type 0
  FullAtHome homes cell rooms =
      (i r : ℕ) → ItemAt rooms i r → r ≢ 0 → get_elem? homes r ≡ some (some (cell r))

  -- the slots of each party's free rooms are at home, with nothing in them
  abbrev pub AllEmptyAtHome : Homes E → List (View E) → Type 0
  AllEmptyAtHome homes views =
      (j : ℕ) (v : View E) → get_elem? views j ≡ some v → v.known.share ≢ [] → EmptyAtHome homes v.free

  -- the free rooms of each party are linked, and so are those whose slots it has yet to give back
  abbrev pub AreLinked : List ℕ → List (View E) → Type 0
  AreLinked words views =
      (j : ℕ) (v : View E) → get_elem? views j ≡ some v → v.known.share ≢ []
      → Links words v.free v.end × Links words v.back v.to

  -- a room of which a use has begun has the element for which it began
  abbrev pub AllReady : (ℕ → Option E) → List (View E) → Type 0
  AllReady cell views =
      (j : ℕ) (v : View E) (r : ℕ) → get_elem? views j ≡ some v → v.known.share ≢ [] → v.stage ≡ Cleared r →
      cell r ≡ v.item

  -- the rooms of the pool are in it once each and are linked, and their slots are at home, with nothing in them
  pub record IsPool (owner : ℕ → Owner) (words : List ℕ) (homes : Homes E) (pool : FreeChain) : Type 0 where
    pub own : (i r : ℕ) → ItemAt pool.rooms i r → owner r ≡ Pooled
    pub once : (i j r : ℕ) → ItemAt pool.rooms i r → ItemAt pool.rooms j r → i ≡ j
    pub linked : Links words pool.rooms pool.end
    pub empty : EmptyAtHome homes pool.rooms

  -- There is one history, which the machine meets, and of which each party has seen a prefix. Each room but the stub's
  -- is in the queue, in the pool, or with a party that has a share. The words are plain here: those of the table have
  -- the bits of the uses, too
  pub record PlainHolds (s : TableState E) : Type 0 where
    pub uses : List (ℕ × ℕ)
    pub history : History E
    pub cell : ℕ → Option E
    pub chain : Chain
    pub pool : FreeChain
    pub meets : Meets (machine_of cell s.words s.views) chain (reverse (events history))
    pub wide : length s.words ≡ LINKS + length s.homes
    pub stub : 1 ≤ length s.homes
    pub full : FullAtHome s.homes cell chain.rooms
    pub empty : AllEmptyAtHome s.homes s.views
    pub ready : AllReady cell s.views
    pub linked : AreLinked s.words s.views
    pub pooled : IsPool chain.owner s.words s.homes pool
    pub all : suc (length (real chain.rooms) + length pool.rooms + tally room_count s.views) ≡ length s.homes
    pub spent : (j : ℕ) (v : View E) → get_elem? s.views j ≡ some v → v.known.share ≡ [] → room_count v ≡ 0
    pub fits : AllAgree actor knows s.views history
    pub owned : SharesDisjoint knows s.views history

  -- the rule of the table: its words spell plain ones, of which that holds, one of them leads to the pool, and the bell
  -- has been rung since it was last cleared only if its word says so
  pub record RuleHolds (s : TableState E) : Type 0 where
    pub words : List ℕ
    pub plain : PlainHolds record { words = words; homes = s.homes; views = s.views }
    pub spells : SpellsWords (bit_of plain.uses) plain.chain.rooms words s.words s.views
    pub word_is : LeadsTo (word.pool s.words) plain.pool
    pub pooled : SpellsFree words s.words plain.pool.rooms
    pub rung : bell s.words ≢ 1 → IsQuiet (events plain.history)

-- a link for each slot, after the other words, and the stub's slot
abbrev pub IsTable : TableId → Type 0
IsTable z = (z.words ≡ LINKS + z.slots) × (1 ≤ z.slots) × (z.slots ≤ suc MAX_ROOMS)
