pub mod Items
pub mod ListCommands
pub mod Replies
pub mod SortedCommands
pub mod StackCommands
