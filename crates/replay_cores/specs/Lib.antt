pub mod Commands
pub mod TransferMachine
pub mod QueueMachine
