-- What a party of a shared queue knows and does, as the rule of the queue's table sees it.
use Rattle.std.specs.Prelude.{ℕ, zero, suc, ◌+◌, List, [], ◌∷◌, ◌++◌, length, take, drop, Option, None, cond, eqb}
use Rattle.cordyceps_shared.specs.FreeChains.{FreeChain, joined, end_after, leads}
use Rattle.cordyceps_shared.specs.Knowing.{Known}
use Rattle.cordyceps_shared.specs.Knowing as knowing
use Rattle.cordyceps_shared.specs.Shares.{Name, first_name}
use Rattle.cordyceps_queue.specs.declared.cores.stage.Stage.{Stage}
use Rattle.cordyceps_queue.specs.declared.cores.stage.Stage.TheVariants.{Rest, Cleared}
use Rattle.cordyceps_queue.specs.History.{Event}

-- what the party knows of the history; its free rooms, whose links lead from each to the next, and the last one's link;
-- its rooms whose slot it has yet to give back, and their last link; where it is within a call, as a stage of the core;
-- the element for which it began a use of a room; and the bits of the uses of rooms, of which it knows those of the
-- rooms that its stage names
pub record View (E : Type 0) : Type 0 where
  pub known : Known (Event Name E)
  pub free : List ℕ
  pub end : ℕ
  pub back : List ℕ
  pub to : ℕ
  pub stage : Stage
  pub item : Option E
  pub bits : List (ℕ × ℕ)

-- the bit of a room's use, by the uses that began, each with its bit, the newest first
abbrev pub bit_of : List (ℕ × ℕ) → ℕ → ℕ
bit_of [] r = 0
bit_of (x ∷ xs) r = cond (eqb r x.0) x.1 (bit_of xs r)

-- of how many rooms a party at this stage has begun a use, and not put them in yet
abbrev pub begun_count : Stage → ℕ
begun_count (Cleared r) = 1
begun_count _ = 0

-- the numbers from n down to 1
abbrev pub down_from : ℕ → List ℕ
down_from zero = []
down_from (suc n) = suc n ∷ down_from n

module _ {E : Type 0} where
  abbrev pub knows : View E → Known (Event Name E)
  knows v = v.known

  -- the party of a new queue; room 0 is the stub's
  abbrev pub newcomer : ℕ → View E
  newcomer rooms = record {
    known = knowing.newcomer;
    free = down_from rooms;
    end = 1;
    back = [];
    to = 0;
    stage = Rest;
    item = None;
    bits = [];
  }

  -- its free rooms, and those whose slot it has yet to give back
  abbrev pub free_chain : View E → FreeChain
  free_chain v = record { rooms = v.free; end = v.end }

  abbrev pub back_chain : View E → FreeChain
  back_chain v = record { rooms = v.back; end = v.to }

  abbrev pub all_rooms : View E → FreeChain
  all_rooms v = joined (free_chain v) (back_chain v)

  -- the same party, once the slots are given back
  abbrev pub view_returned : View E → View E
  view_returned v = record v { free = v.free ++ v.back; end = end_after v.end v.back v.to; back = [] }

  -- the same party with the first n of its free rooms alone
  abbrev pub with_first_rooms : ℕ → View E → View E
  with_first_rooms n v = record v { free = take n v.free; end = leads (drop n v.free) v.end }

  -- how many rooms it has, free, to be given back or with a use begun
  abbrev pub room_count : View E → ℕ
  room_count v = length v.free + length v.back + begun_count v.stage

  -- the name under which the party acts
  abbrev pub name : View E → Name
  name v = first_name v.known.share
