use Rattle.std.proofs.Common.{◌≡◌, ◌≤◌, ◌++◌, map, length}
use Rattle.cordyceps_shared.specs.Histories.{plain}
use Rattle.cordyceps_shared.specs.Shares.{whole}
use Rattle.cordyceps_queue.specs.History.{held}
use Rattle.cordyceps_queue.proofs.laws.close_behind.Given as goal

abbrev pub invariant-loop-handle : goal.invariant-loop-handle
invariant-loop-handle g l = record {
  after : map g.T.Linked.element (held (plain l.party.seen)) ++ l.elements ≡ map g.T.Linked.element (held (plain l.initial.party.seen)) ++ l.initial.elements;
  table : l.party.table ≡ l.initial.party.table;
  share : l.party.share ≡ whole;
  rooms : length l.elements ≤ l.party.rooms;
}

abbrev pub decreases-loop-handle : goal.decreases-loop-handle
decreases-loop-handle g l = length l.elements
