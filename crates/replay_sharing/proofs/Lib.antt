pub mod InOrder
pub mod Sharing
pub mod Workers
