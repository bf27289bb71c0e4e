-- Lemmas for users of shared collections, as the crates below prove them.
pub use Rattle.cordyceps_shared.proofs.Acting
pub use Rattle.cordyceps_shared.proofs.Adding
pub use Rattle.cordyceps_shared.proofs.Balancing
pub use Rattle.cordyceps_shared.proofs.Counting
pub use Rattle.cordyceps_shared.proofs.NameHalves
pub use Rattle.cordyceps_shared.proofs.Interleaving
pub use Rattle.cordyceps_shared.proofs.Knowing
pub use Rattle.cordyceps_shared.proofs.Moving
pub use Rattle.cordyceps_shared.proofs.Ordering
pub use Rattle.cordyceps_shared.proofs.Owning
pub use Rattle.cordyceps_shared.proofs.Sending
pub use Rattle.cordyceps_shared.proofs.Summing
pub use Rattle.cordyceps_shared.proofs.EventCounts
