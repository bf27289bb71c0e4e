-- How a party of a transfer stack is split in two, takes another in, and learns what it then knows.
use Rattle.std.specs.Prelude.{◌≡◌, ℕ, ◌≤◌, [], length}
use Rattle.cordyceps_shared.specs.FreeChains.{first_rooms, joined, rest_rooms}
use Rattle.cordyceps_shared.specs.Knowing.{IsKnown}
use Rattle.cordyceps_shared.specs.Knowing as knowing
use Rattle.cordyceps_stack.specs.History.{Legal}
use Rattle.cordyceps_stack.specs.Shared.Plays.{SeatState}
use Rattle.cordyceps_stack.specs.Shared.Slots.{TableStep, view, hand}
use Rattle.cordyceps_stack.specs.Shared.View.{Idle, View}

module _ {E : Type 0} where
  -- a load of head by a party that took another in
  abbrev pub view_without_told : View E → View E
  view_without_told v = record v { known = record v.known { had = []; told = [] } }

  pub record HasLearned (slots : ℕ) (m k : SeatState E) : Type 0 where
    pub view_is : view k ≡ view_without_told (view m)
    pub hand : hand k ≡ hand m
    pub known : IsKnown (λ h. Legal h) (view m).known
    pub few : length (view m).free.rooms ≤ slots

  abbrev pub after_learn : TableStep E → SeatState E → ℕ → SeatState E → Type 0
  after_learn st m read k = HasLearned st.slots m k

  -- what a party has that gave up the first n of its free rooms, and what the new one has
  abbrev pub view_keeping : ℕ → View E → View E
  view_keeping n v = record { known = knowing.known_keeping v.known; free = rest_rooms n v.free; doing = v.doing }

  abbrev pub view_giving : ℕ → View E → View E
  view_giving n v = record { known = knowing.known_giving v.known; free = first_rooms n v.free; doing = Idle }

  -- what a party has that took another in, and what is left of the other
  abbrev pub view_absorbing : View E → View E → View E
  view_absorbing v w =
      record { known = knowing.known_absorbing v.known w.known; free = joined v.free w.free; doing = Idle }

  abbrev pub view_absorbed : View E
  view_absorbed = record { known = knowing.known_absorbed; free = record { rooms = []; end = 0 }; doing = Idle }
