-- Functions that compare items by the quotients of their values.
use Rattle.std.specs.Prelude.{◌≡◌, ◌/◌}
use Rattle.std.specs.Borrow.{Bor}
use denote.Param.Members.{Shared}
use Rattle.std.specs.Fn.{FnReturnsAtPair}
use Rattle.std.specs.Ordering.{nat_cmp}
use Rattle.std.specs.declared.cmp.Ordering.{Ordering}
use Rattle.cordyceps_commands.specs.declared.item.Item.{Item}

-- the order of the values' quotients by ten
abbrev pub by_tens : Item → Item → Ordering
by_tens x y = nat_cmp (x.value / 10) (y.value / 10)

-- what f returns is that order
abbrev pub ComparesTens : {F : Type 0} → Shared F (Bor Item × (Bor Item × Unit {0})) Ordering → F → Type 0
ComparesTens g f = (x y : Item) (r : Ordering) → FnReturnsAtPair g f x y r → r ≡ by_tens x y
