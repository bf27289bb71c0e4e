use Rattle.std.proofs.Common.{◌≡◌, ◌+◌, length}
use Rattle.cordyceps_shared.specs.Histories.{plain}
use Rattle.cordyceps_shared.specs.Shares.{whole}
use Rattle.cordyceps_queue.specs.History.{held}
use Rattle.cordyceps_queue.proofs.SharedTheory.CloseTakesAll.{TakesOut}
use Rattle.cordyceps_queue.proofs.SharedTheory.TriesInTurn.{Given}
use Rattle.cordyceps_queue.proofs.shared.calls.MpscQueue.drain.Given as goal

abbrev pub invariant-loop-handle : goal.invariant-loop-handle
invariant-loop-handle g l = record {
  taken : Given TakesOut g.T.Linked.element l.elements l.initial.party l.party;
  table : l.party.table ≡ l.initial.party.table;
  share : l.party.share ≡ whole;
  rooms : l.party.rooms ≡ l.initial.party.rooms + length l.elements;
}

abbrev pub decreases-loop-handle : goal.decreases-loop-handle
decreases-loop-handle g l = length (held (plain l.party.seen))
