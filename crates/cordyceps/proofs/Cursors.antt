-- Lemmas for users of lists, their cursors and iterators, as the crates below prove them.
pub use Rattle.cordyceps_list.proofs.Asking
pub use Rattle.cordyceps_list.proofs.Handed
pub use Rattle.cordyceps_list.proofs.Lent
pub use Rattle.cordyceps_list.proofs.Rounds
