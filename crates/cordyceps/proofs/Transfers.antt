-- Lemmas for users of transfer stacks, as the crates below prove them.
pub use Rattle.cordyceps_stack.proofs.Histories
pub use Rattle.cordyceps_stack.proofs.SharedTheory.CallsHold
pub use Rattle.cordyceps_stack.proofs.SharedTheory.PartyBalances
pub use Rattle.cordyceps_stack.proofs.SharedTheory.PartyMoves
pub use Rattle.cordyceps_stack.proofs.SharedTheory.Sending
