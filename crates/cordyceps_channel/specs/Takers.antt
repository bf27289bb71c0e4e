-- What a contract sees of a receiver's party, which takes the right to dequeue and gives it back.
use Rattle.std.specs.Prelude.{◌≡◌, ◌⊎◌, [], Bool, true, false, Option, Some, None}
use Rattle.atomic_table.specs.Seated.{TableId}
use Rattle.cordyceps_shared.specs.Standings.{new_party}
use Rattle.cordyceps_queue.specs.Shared.Calls.{PartyOf}
use Rattle.cordyceps_queue.specs.Shared.OwnedConsumer.{OwnedOf}

-- the party, and whether it has the right
pub record TakerOf (E : Type 0) : Type 0 where
  pub party : PartyOf E
  pub holds : Bool

module _ {E A : Type 0} where
  -- the party of the consumer, or the one that is at rest; one of the two is there
  abbrev pub taker_of : Option (OwnedOf E) → Option (A × PartyOf E) → TakerOf E
  taker_of (Some c) resting = record { party = c.party; holds = true }
  taker_of None (Some r) = record { party = r.1; holds = false }
  taker_of None None = record {
    party = new_party (record { words = 0; slots = 0; views_name = 0; atom = 0; block = 0; offset = 0; slot_names = [] }) 0;
    holds = false;
  }

  -- the party is a consumer of its queue
  pub record HasRight (consumer : Option (OwnedOf E)) (resting : Option (A × PartyOf E)) : Type 0 where
    pub it : OwnedOf E
    pub is : consumer ≡ Some it
    pub none : resting ≡ None
    pub table : it.queue.table ≡ it.party.table

  -- the party is at rest, with its queue
  pub record IsAtRest (table_of : A → TableId) (consumer : Option (OwnedOf E)) (resting : Option (A × PartyOf E)) : Type 0
    where
      pub it : A × PartyOf E
      pub is : resting ≡ Some it
      pub none : consumer ≡ None
      pub table : table_of it.0 ≡ it.1.table

  abbrev pub IsTaker : (A → TableId) → Option (OwnedOf E) → Option (A × PartyOf E) → Type 0
  IsTaker table_of consumer resting = HasRight consumer resting ⊎ IsAtRest table_of consumer resting
