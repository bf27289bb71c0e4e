-- Histories and calls of queues, as the crates below define them.
pub use Rattle.cordyceps_queue.specs.Bells
pub use Rattle.cordyceps_queue.specs.History
pub use Rattle.cordyceps_queue.specs.Laws
pub use Rattle.cordyceps_queue.specs.Past
pub use Rattle.cordyceps_queue.specs.Shared.Batches
pub use Rattle.cordyceps_queue.specs.Shared.Bell
pub use Rattle.cordyceps_queue.specs.Shared.Calls
pub use Rattle.cordyceps_queue.specs.Shared.Moves
pub use Rattle.cordyceps_queue.specs.Shared.OwnedConsumer
pub use Rattle.cordyceps_queue.specs.Shared.Receipts
pub use Rattle.cordyceps_queue.specs.Shared.Sending
pub use Rattle.cordyceps_queue.specs.declared.cores.steps.TryDequeueError
