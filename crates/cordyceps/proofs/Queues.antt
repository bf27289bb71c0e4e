-- Lemmas for users of queues, as the crates below prove them.
pub use Rattle.cordyceps_queue.proofs.BothWays
pub use Rattle.cordyceps_queue.proofs.PartyOrder
pub use Rattle.cordyceps_queue.proofs.SharedTheory.CallsHold
pub use Rattle.cordyceps_queue.proofs.SharedTheory.CloseTakesAll
pub use Rattle.cordyceps_queue.proofs.SharedTheory.OthersDoing
pub use Rattle.cordyceps_queue.proofs.SharedTheory.OwnNames
pub use Rattle.cordyceps_queue.proofs.SharedTheory.PartyBalances
pub use Rattle.cordyceps_queue.proofs.SharedTheory.PartyMoves
pub use Rattle.cordyceps_queue.proofs.SharedTheory.Sending
pub use Rattle.cordyceps_queue.proofs.SharedTheory.SleeperCalls
pub use Rattle.cordyceps_queue.proofs.SharedTheory.SleeperLaw
pub use Rattle.cordyceps_queue.proofs.SharedTheory.ToldFinds
pub use Rattle.cordyceps_queue.proofs.SharedTheory.WaitingTries
