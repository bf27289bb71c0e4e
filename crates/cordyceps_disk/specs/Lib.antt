pub mod Orders
pub mod Pairs
pub mod Queue
pub mod Runs
