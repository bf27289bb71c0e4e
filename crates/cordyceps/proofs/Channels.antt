-- Lemmas for users of channels, as the crate below proves them.
pub use Rattle.cordyceps_channel.proofs.Among
pub use Rattle.cordyceps_channel.proofs.Apart
pub use Rattle.cordyceps_channel.proofs.Missing
pub use Rattle.cordyceps_channel.proofs.Waiting
