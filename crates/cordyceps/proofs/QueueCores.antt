-- Lemmas for users of cores of queues, as the crates below prove them.
pub use Rattle.cordyceps_base.proofs.Runs
pub use Rattle.cordyceps_queue.proofs.CoreTheory.CoreKeeps
