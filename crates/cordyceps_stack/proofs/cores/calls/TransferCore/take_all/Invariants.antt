use Rattle.std.proofs.Common.{◌≡◌, ◌+◌, ◌≤◌}
use Rattle.std.specs.Prelude.{vec_len, vec_capacity, None}
use Rattle.cordyceps_shared.specs.Rooms.{occupied}
use Rattle.cordyceps_stack.proofs.CoreTheory.AloneTakeAll.{Clearing}
use Rattle.cordyceps_stack.proofs.cores.calls.TransferCore.take_all.Given as goal

abbrev pub invariant-loop-at : goal.invariant-loop-at
invariant-loop-at g l = record {
  clearing : Clearing l.fn.self l.fn.party l.self-inside.rooms l.self-inside.parties.items l.at l.batch.items;
  empty : l.self-inside.head ≡ None;
  room : vec_len l.batch + occupied l.self-inside.rooms ≤ vec_capacity l.batch;
}

abbrev pub decreases-loop-at : goal.decreases-loop-at
decreases-loop-at g l = occupied l.self-inside.rooms
