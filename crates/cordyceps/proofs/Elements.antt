-- Lemmas on elements, as the crates below prove them.
pub use Rattle.cordyceps_base.proofs.Places
