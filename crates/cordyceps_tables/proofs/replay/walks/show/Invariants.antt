use Rattle.std.proofs.Common.{◌≡◌, ◌+◌, ◌≤◌, ◌++◌, Some, map, length, vec_capacity}
use Rattle.cordyceps_base.specs.Element.{values}
use Rattle.cordyceps_tables.proofs.replay.walks.show.Given as goal

abbrev pub invariant-loop-item : goal.invariant-loop-item
invariant-loop-item l = record {
  room : length l.shown.items + length l.item-iterator ≤ vec_capacity l.shown;
  told : l.shown.items ++ map Some l.item-iterator ≡ map Some (values l.list);
}
