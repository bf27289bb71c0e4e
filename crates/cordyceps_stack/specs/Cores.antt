-- Definitions of the core.
pub mod Alone
pub mod CoreMeets
pub mod Machine
pub mod Stages
pub mod Walks
