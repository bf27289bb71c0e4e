pub mod Apart
mod Held
pub mod Kept
mod Least
mod Merged
mod Reading
mod Said
mod Settled
pub mod Standing
