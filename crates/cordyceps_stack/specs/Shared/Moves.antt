-- What a party put in and took out in several calls.
use Rattle.std.specs.Prelude.{ℕ, List, [], ◌∷◌, map, reverse}
use Rattle.cordyceps_shared.specs.Acting as parties
use Rattle.cordyceps_stack.specs.History.{Event, Push, Taken}
use Rattle.cordyceps_stack.specs.Shared.Calls.{PartyOf}

-- f: what is told of an element
module _ {E A : Type 0} (f : E → A) where
  -- what an event put in, and what it took out, oldest first
  abbrev pub put_by : {P : Type 0} → Event P E → List A
  put_by (Push p e) = f e ∷ []
  put_by _ = []

  abbrev pub got_by : {P : Type 0} → Event P E → List A
  got_by (Taken p batch) = map f (reverse batch)
  got_by _ = []

  -- from u to w the party put in elements of which f tells the first list, and took out those of which it tells the
  -- second, each in this order, and each batch oldest first
  abbrev pub Moves : List A → List A → PartyOf E → PartyOf E → Type 0
  Moves sent got u w = parties.Moves put_by got_by sent got u w

  -- the same, with the rooms that the party drew from the pool, and those that it gave to it
  abbrev pub Balances : List A → List A → ℕ → ℕ → PartyOf E → PartyOf E → Type 0
  Balances sent got drawn given u w = parties.Balances put_by got_by sent got drawn given u w
