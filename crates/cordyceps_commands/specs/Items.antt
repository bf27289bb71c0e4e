-- How items are ordered.
use Rattle.std.specs.Ordering.{nat_cmp, on, then_cmp}
use Rattle.std.specs.declared.cmp.Ordering.{Ordering}
use Rattle.cordyceps_commands.specs.declared.item.Item.{Item}

-- by value, and those of one value by number
abbrev pub by_value_then_number : Item → Item → Ordering
by_value_then_number = then_cmp (on (λ item. item.value) nat_cmp) (on (λ item. item.id) nat_cmp)
