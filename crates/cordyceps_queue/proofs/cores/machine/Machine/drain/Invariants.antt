use Rattle.std.proofs.Common.{◌≡◌, ℕ, ◌+◌, ◌-◌, ◌≤◌, ◌⊎◌, List, Some, length, slice_get, vec_capacity}
use Rattle.cordyceps_queue.specs.declared.cores.stage.Stage.TheVariants.{Holding}
use Rattle.cordyceps_queue.specs.Cores.CoreMeets.{CoreMeets}
use Rattle.cordyceps_queue.specs.Cores.Drain.{after_drain}
use Rattle.cordyceps_queue.specs.History.{Event, held}
use Rattle.cordyceps_queue.proofs.CoreTheory.AloneDrain.{after_items}
use Rattle.cordyceps_queue.proofs.cores.machine.Machine.drain.Given as goal

abbrev pub invariant-loop-self : goal.invariant-loop-self
invariant-loop-self g l = record {
  whole : after_items l.batch.items (after_drain l.party (l.max - length l.batch.items) l.self) ≡ after_drain l.party l.max l.initial.self;
  holding : (t : ℕ) × (slice_get l.self.parties l.party ≡ Some (Holding t));
  room : (h : List (Event ℕ g.row.E.Denot)) × CoreMeets h l.self × ((l.max ≤ vec_capacity l.batch) ⊎ (length l.batch.items + length (held h) ≤ vec_capacity l.batch));
  few : length l.batch.items ≤ l.max;
}

abbrev pub decreases-loop-self : goal.decreases-loop-self
decreases-loop-self g l = l.max - length l.batch.items
