-- How a party of a queue is split in two, takes another in, and learns what it then knows.
use Rattle.std.specs.Prelude.{◌≡◌, ℕ, ◌≤◌, [], ◌++◌, length, take, drop, None}
use Rattle.cordyceps_shared.specs.FreeChains.{leads, end_after}
use Rattle.cordyceps_shared.specs.Histories.{plain}
use Rattle.cordyceps_shared.specs.Knowing.{IsKnown}
use Rattle.cordyceps_shared.specs.Knowing as knowing
use Rattle.cordyceps_queue.specs.declared.cores.stage.Stage.TheVariants.{Rest}
use Rattle.cordyceps_shared.specs.Slots.{TableStep, view, hand}
use Rattle.cordyceps_queue.specs.Shared.Plays.{SeatState, LegalReversed}
use Rattle.cordyceps_queue.specs.Shared.Calls.{NonePending, NoneHolds}
use Rattle.cordyceps_queue.specs.Shared.View.{View}

module _ {E : Type 0} where
  -- a load of head by a party that took another in
  abbrev pub view_without_told : View E → View E
  view_without_told v = record v { known = record v.known { had = []; told = [] } }

  pub record HasLearned (slots : ℕ) (m k : SeatState E) : Type 0 where
    pub view_is : view k ≡ view_without_told (view m)
    pub hand : hand k ≡ hand m
    pub known : IsKnown (λ h. LegalReversed h) (view m).known
    pub few : length (view m).free ≤ slots
    pub linked : NonePending (view m).known.share (plain (view m).known.seen)
    pub unheld : NoneHolds (view m).known.share (plain (view m).known.seen)

  abbrev pub after_learn : TableStep E → SeatState E → ℕ → SeatState E → Type 0
  after_learn st m read k = HasLearned st.slots m k

  -- what a party has that gave up the first n of its free rooms, and what the new one has
  abbrev pub view_keeping : ℕ → View E → View E
  view_keeping n v = record v { known = knowing.known_keeping v.known; free = drop n v.free }

  abbrev pub view_giving : ℕ → View E → View E
  view_giving n v =
      record {
        known = knowing.known_giving v.known;
        free = take n v.free;
        end = leads (drop n v.free) v.end;
        back = [];
        to = 0;
        stage = Rest;
        item = None;
        bits = v.bits;
      }

  -- what a party has that took another in, and what is left of the other
  abbrev pub view_absorbing : View E → View E → View E
  view_absorbing v w =
      record {
        known = knowing.known_absorbing v.known w.known;
        free = v.free ++ w.free;
        end = end_after v.end w.free w.end;
        back = [];
        to = 0;
        stage = Rest;
        item = None;
        bits = v.bits;
      }

  abbrev pub view_absorbed : View E
  view_absorbed =
      record {
        known = knowing.known_absorbed;
        free = [];
        end = 0;
        back = [];
        to = 0;
        stage = Rest;
        item = None;
        bits = [];
      }
