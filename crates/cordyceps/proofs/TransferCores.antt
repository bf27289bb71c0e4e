-- Lemmas for users of transfer cores, as the crates below prove them.
pub use Rattle.cordyceps_base.proofs.Runs
pub use Rattle.cordyceps_stack.proofs.CoreTheory.CoreKeeps
pub use Rattle.cordyceps_stack.proofs.CoreTheory.ReplayHolds
pub use Rattle.cordyceps_stack.proofs.CoreTheory.WalkSteps
