-- What a party did, whatever else it saw.
use Rattle.std.specs.Prelude.{◌≡◌, ℕ, ◌+◌, List, ◌++◌, flat_map, length, Bool}
use Rattle.cordyceps_shared.specs.Histories.{own}
use Rattle.cordyceps_shared.specs.Standings.{Standing}

module _ {X : Type 0} where
  -- the party has seen more, with exactly these events of its own. Collection and share are the same. Other than `Adds`
  -- it says nothing of what is legal, so it holds of a party that did nothing
  pub record Acts (u : Standing X) (es : List X) (w : Standing X) : Type 0 where
    pub rest : List (Bool × X)
    pub is : w.seen ≡ u.seen ++ rest
    pub adds : own rest ≡ es
    pub table : w.table ≡ u.table
    pub share : w.share ≡ u.share

-- puts and takes: what an event put in, and what it took out
module _ {X A : Type 0} (puts takes : X → List A) where
  -- from u to w the party put in the first list and took out the second, each in this order. It says nothing of rooms
  pub record Moves (sent got : List A) (u w : Standing X) : Type 0 where
    pub events : List X
    pub acts : Acts u events w
    pub put_in : flat_map puts events ≡ sent
    pub took_out : flat_map takes events ≡ got

  -- the same, with its rooms: each element that it put in took one, and each that it took out gave one. Besides these it
  -- drew so many from the pool, and gave so many to it
  pub record Balances (sent got : List A) (drawn given : ℕ) (u w : Standing X) : Type 0 where
    pub moves : Moves sent got u w
    pub rooms : w.rooms + length sent + given ≡ u.rooms + length got + drawn
