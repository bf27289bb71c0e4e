-- Histories and calls of transfer stacks, as the crates below define them.
pub use Rattle.cordyceps_stack.specs.History
pub use Rattle.cordyceps_stack.specs.Shared.Calls
pub use Rattle.cordyceps_stack.specs.Shared.Inboxes
pub use Rattle.cordyceps_stack.specs.Shared.Moves
pub use Rattle.cordyceps_stack.specs.Shared.Receipts
pub use Rattle.cordyceps_stack.specs.declared.shared.push_error.TryPushError
