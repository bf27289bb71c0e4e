-- The removal of items that pass a filter.
use Rattle.std.specs.Prelude.{ℕ, zero, suc, ◌+◌, ◌%◌, ◌==◌, Bool, true, not, List, [], ◌∷◌, ◌++◌, take, drop, slice_get}
use Rattle.std.specs.Prelude.{if◌then◌else◌}
use Rattle.std.specs.Option.{option_map_or}
use Rattle.cordyceps_base.specs.Element.{Elements, values}
use Rattle.cordyceps_commands.specs.declared.item.Item.{Item}
use Rattle.cordyceps_commands.specs.declared.list_command.Filter.{Filter}
use Rattle.cordyceps_commands.specs.declared.list_command.Filter.TheVariants as filters

-- whether an item passes; the turn is that of the first item, the third, and so on
abbrev pub passes : Filter → Bool → Item → Bool
passes filters.Even turn item = item.value % 2 == 0
passes filters.Alternate turn item = turn
passes filters.All turn item = true

-- how many items do not pass, before the first that does
abbrev pub skip_count : Filter → Bool → List Item → ℕ
skip_count filter turn [] = 0
skip_count filter turn (item ∷ items) = if passes filter turn item then 0 else skip_count filter (not turn) items + 1

-- the turn after that item
abbrev pub turn_after : Filter → Bool → List Item → Bool
turn_after filter turn [] = turn
turn_after filter turn (item ∷ items) =
    if passes filter turn item then not turn else turn_after filter (not turn) items

-- the place of the first element, from a place on, that passes, or the length
abbrev pub first_passing : Filter → Bool → Elements Item → ℕ → ℕ
first_passing filter turn s k = k + skip_count filter turn (drop k (values s))

-- the elements without the one at a place
abbrev pub all_but : Elements Item → ℕ → Elements Item
all_but s k = take k s ++ drop (k + 1) s

-- The items that are taken out from a place on, at most so many, and the elements that stay.
abbrev pub drain : Filter → ℕ → Bool → Elements Item → ℕ → List Item × Elements Item
drain filter zero turn s k = ([], s)
drain filter (suc n) turn s k =
    let at = first_passing filter turn s k in
    let more = drain filter n (turn_after filter turn (drop k (values s))) (all_but s at) at in
    option_map_or (λ item. (item ∷ more.0, more.1)) (slice_get (values s) at) ([], s)
