use Rattle.std.proofs.Common.{◌≡◌, ◌++◌, Some, map}
use Rattle.cordyceps_base.specs.Element.{values}
use Rattle.cordyceps_tables.proofs.replay.sorteds.show.Given as goal

abbrev pub invariant-loop-item : goal.invariant-loop-item
invariant-loop-item g l = l.items.items ++ map Some l.item-iterator ≡ map Some (values l.list.elements)
