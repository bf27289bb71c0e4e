mod Between
pub mod Entered
pub mod Fewer
pub mod HookRows
pub mod Indexes
mod Indexed
mod Marking
pub mod Members
mod Placed
mod Reached
pub mod Shared
pub mod Threads
pub mod ValueAt
mod Written
