-- What the table of a vault holds.
use Rattle.std.specs.Prelude.{◌≡◌}
use mathlib.Core.Option.{some}
use lib.ListN.{get_elem?}
use Rattle.atomic_table.specs.Table.{State}

-- the first slot is at home with this value
abbrev pub IsAtHome : {E V : Type 0} → E → State E V → Type 0
IsAtHome value table = get_elem? table.homes 0 ≡ some (some value)
