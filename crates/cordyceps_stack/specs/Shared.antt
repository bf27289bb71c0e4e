-- Definitions of what threads share.
pub mod Batches
pub mod Calls
pub mod Inboxes
pub mod Moves
pub mod Order
pub mod Parting
pub mod Parts
pub mod Plays
pub mod Receipts
pub mod Rule
pub mod Slots
pub mod Telling
pub mod View
pub mod Words
