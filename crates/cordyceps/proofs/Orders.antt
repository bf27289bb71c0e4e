-- Lemmas for users of sorted lists, as the crates below prove them.
pub use Rattle.cordyceps_single.proofs.Arrangement
pub use Rattle.cordyceps_single.proofs.Keys
pub use Rattle.cordyceps_single.proofs.Places
pub use Rattle.cordyceps_single.proofs.Preorder
pub use Rattle.cordyceps_single.proofs.Puts
pub use Rattle.cordyceps_single.proofs.Taken
