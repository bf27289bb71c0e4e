-- Definitions of the core.
pub mod Abstract
pub mod Alone
pub mod CoreMeets
pub mod Drain
pub mod Machine
pub mod Meets
pub mod StepKeeps
