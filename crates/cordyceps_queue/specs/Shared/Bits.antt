-- One bit says to which use of a room a word belongs, and the next use of the room has the other bit. How the words of
-- a queue's table spell the words of its plain machine, which have no bits.
use Rattle.std.specs.Prelude.{◌≡◌, ◌≢◌, ◌⊎◌, ℕ, zero, suc, ◌+◌, ◌*◌, ◌-◌, ◌<◌, List, [], ◌++◌, length}
use mathlib.Core.Option.{some}
use lib.ListN.{get_elem?}
use Rattle.cordyceps_shared.specs.Places.{ItemAt}
use Rattle.cordyceps_shared.specs.Words as word
use Rattle.cordyceps_queue.specs.declared.cores.stage.Stage.{Stage}
use Rattle.cordyceps_queue.specs.declared.cores.stage.Stage.TheVariants.{Rest, Cleared, Swapped, Holding, StubNull}
use Rattle.cordyceps_queue.specs.declared.cores.stage.Stage.TheVariants.{Second, Null, PutClear, PutSwap, PutLink}
use Rattle.cordyceps_queue.specs.declared.cores.stage.Stage.TheVariants.{PutRead}
use Rattle.cordyceps_queue.specs.Shared.View.{View, bit_of}

abbrev pub IsBit : ℕ → Type 0
IsBit b = b < 2

-- a link word that leads to next, in the use of that room with the bit to, of a room in its use with this bit
abbrev pub IsLink : ℕ → ℕ → ℕ → ℕ → Type 0
IsLink link next to bit = (link ≡ 4 * next + 2 * to + bit) × IsBit to × IsBit bit

-- a link word that leads to next, to and from whichever uses of the rooms
pub record IsFreeLink (link next : ℕ) : Type 0 where
  pub to : ℕ
  pub bit : ℕ
  pub is : IsLink link next to bit

-- a link word of a room whose use has this bit is one of an earlier use
abbrev pub IsOld : ℕ → ℕ → Type 0
IsOld bit link = (y : ℕ) × (link ≡ 2 * y + (1 - bit)) × IsBit bit

-- what a link word says of a room whose use has this bit: nothing, or where it leads, and the bit of the use of that
-- room
abbrev pub IsRead : ℕ → ℕ → ℕ → ℕ → Type 0
IsRead bit link zero to = IsOld bit link
IsRead bit link (suc r) to = IsLink link (suc r) to bit

-- the rooms whose bits a party knows at a stage
abbrev pub Knows : Stage → ℕ → Type 0
Knows Rest x = ⊥
Knows (Cleared r) x = x ≡ r
Knows (Swapped r old) x = (x ≡ r) ⊎ (x ≡ old)
Knows (Holding t) x = x ≡ t
Knows StubNull x = x ≡ 0
Knows (Second t) x = x ≡ t
Knows (Null t) x = x ≡ t
Knows (PutClear t) x = x ≡ t
Knows (PutSwap t) x = (x ≡ t) ⊎ (x ≡ 0)
Knows (PutLink t old) x = (x ≡ t) ⊎ ((x ≡ 0) ⊎ (x ≡ old))
Knows (PutRead t) x = x ≡ t

-- the room that a party has begun to use, and not put in yet
abbrev pub Begun : Stage → ℕ → Type 0
Begun (Cleared r) x = x ≡ r
Begun (PutSwap t) x = x ≡ 0
Begun _ x = ⊥

-- the word of the right
abbrev pub IsRight : (ℕ → ℕ) → ℕ → ℕ → Type 0
IsRight uses zero x = x ≡ 0
IsRight uses (suc t) x = x ≡ 2 * suc t + uses t

-- the links of these rooms, which are free, lead where their plain links do, to whichever use
abbrev pub SpellsFree : List ℕ → List ℕ → List ℕ → Type 0
SpellsFree plain words rooms = (i r : ℕ) → ItemAt rooms i r → IsFreeLink (word.next words r) (word.next plain r)

-- the link of a room in use: null, or it leads to a room in its present use
abbrev pub Spells : (ℕ → ℕ) → ℕ → ℕ → ℕ → Type 0
Spells uses r zero x = IsOld (uses r) x
Spells uses r (suc s) x = IsLink x (suc s) (uses s) (uses r)

module _ {E : Type 0} where
  -- of the plain words and the words: the links of the party's free rooms; the link of a room that it has begun to use
  -- is of an earlier use; and the party knows the bits of the rooms that it acts on
  pub record KeepsUse (uses : ℕ → ℕ) (plain words : List ℕ) (v : View E) : Type 0 where
    pub free : SpellsFree plain words (v.free ++ v.back)
    pub begun : (r : ℕ) → Begun v.stage r → IsOld (uses r) (word.next words r)
    pub knows : (r : ℕ) → Knows v.stage r → bit_of v.bits r ≡ uses r

  -- the words spell the plain words, where these rooms are in the queue
  pub record SpellsWords (uses : ℕ → ℕ) (rooms plain words : List ℕ) (views : List (View E)) : Type 0 where
    pub bits : (r : ℕ) → IsBit (uses r)
    pub long : length words ≡ length plain
    pub head : word.head words ≡ 2 * word.head plain + uses (word.head plain)
    pub right : IsRight uses (word.right plain) (word.right words)
    pub links : (i r : ℕ) → ItemAt rooms i r → Spells uses r (word.next plain r) (word.next words r)
    pub each : (j : ℕ) (v : View E) → get_elem? views j ≡ some v → v.known.share ≢ [] → KeepsUse uses plain words v
