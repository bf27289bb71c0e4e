-- Definitions of what threads share.
pub mod Batches
pub mod Bell
pub mod Bits
pub mod Calls
pub mod OwnedConsumer
pub mod Moves
pub mod Parting
pub mod Parts
pub mod Plays
pub mod Receipts
pub mod Rule
pub mod Sending
pub mod Telling
pub mod Uses
pub mod Vault
pub mod View
