-- What an iterator has left.
use Rattle.std.specs.Prelude.{ℕ, ◌-◌, ◌<◌, ◌≤◌, length}
use Rattle.cordyceps_base.specs.declared.boxes.Address.{Address}
use Rattle.cordyceps_base.specs.Nodes.{Nodes, IsAt}

-- the places from front to before back are left, and where there is one the first and the last of them are known
pub record KnowsEnds {X : Type 0} (c : Nodes X) (first last : Address) (front back : ℕ) : Type 0 where
  pub ordered : front ≤ back
  pub within : back ≤ length c
  pub first_is : front < back → IsAt c front first
  pub last_is : front < back → IsAt c (back - 1) last
