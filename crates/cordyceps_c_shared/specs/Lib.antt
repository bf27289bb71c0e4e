pub mod Inboxes
pub mod Lends
pub mod Piles
pub mod Rows
