use Rattle.std.proofs.Common.{◌≡◌, ◌+◌, ◌-◌, ◌≤◌, ◌++◌, length, drop, vec_capacity}
use Rattle.cordyceps_base.specs.Element.{values}
use Rattle.cordyceps_tables.specs.Walks.{items_for}
use Rattle.cordyceps_tables.proofs.replay.walks.walk_into.Given as goal

abbrev pub invariant-loop-turn : goal.invariant-loop-turn
invariant-loop-turn l = record {
  room : length l.shown.items + (length l.turns - l.turn-index) ≤ vec_capacity l.shown;
  told : l.shown.items ++ items_for (drop l.turn-index l.turns) (values l.items) ≡ items_for l.turns (values l.fn.list);
}
