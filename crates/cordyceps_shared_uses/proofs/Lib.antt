mod Accounting
mod Apart
mod Arranging
mod Deadlines
mod Journaling
mod Scheduling
mod Sleeping
mod Working
pub mod Sharing
pub mod Started
