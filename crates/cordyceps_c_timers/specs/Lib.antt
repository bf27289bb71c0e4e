pub mod Arranged
pub mod Lends
pub mod NodeQueues
pub mod Queues
pub mod Rows
pub mod Timers
