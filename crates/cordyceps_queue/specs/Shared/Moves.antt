-- What a party put in and took out in several calls.
use Rattle.std.specs.Prelude.{ℕ, List, [], ◌∷◌, Result, Ok, Err}
use Rattle.cordyceps_shared.specs.Acting as parties
use Rattle.cordyceps_queue.specs.declared.cores.steps.TryDequeueError.{TryDequeueError}
use Rattle.cordyceps_queue.specs.History.{Event, Swap, Out}
use Rattle.cordyceps_queue.specs.Shared.Calls.{PartyOf}

-- f: what is told of an element
module _ {E A : Type 0} (f : E → A) where
  -- what an event put in, and what it took out
  abbrev pub put_by : {P : Type 0} → Event P E → List A
  put_by (Swap p e) = f e ∷ []
  put_by _ = []

  abbrev pub got_by : {P : Type 0} → Event P E → List A
  got_by (Out p e) = f e ∷ []
  got_by _ = []

  -- from u to w the party put in elements of which f tells the first list, and took out those of which it tells the
  -- second, each in this order
  abbrev pub Moves : List A → List A → PartyOf E → PartyOf E → Type 0
  Moves sent got u w = parties.Moves put_by got_by sent got u w

  -- the same, with the rooms that the party drew from the pool, and those that it gave to it
  abbrev pub Balances : List A → List A → ℕ → ℕ → PartyOf E → PartyOf E → Type 0
  Balances sent got drawn given u w = parties.Balances put_by got_by sent got drawn given u w

  -- what a try took out
  abbrev pub got_by_try : Result E TryDequeueError → List A
  got_by_try (Ok e) = f e ∷ []
  got_by_try (Err why) = []
