-- Lemmas on the core.
pub mod AlonePush
pub mod AloneTakeAll
pub mod AnyStep
pub mod Chains
pub mod CoreGrows
pub mod CoreKeeps
pub mod EachStep
pub mod Refusals
pub mod ReplayHolds
pub mod WalkCalls
pub mod WalkSteps
