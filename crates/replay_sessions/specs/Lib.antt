pub mod Commands
pub mod ListMachine
pub mod OpenBlocks
pub mod StackMachine
pub mod SortedMachine
pub mod Tens
pub mod Modes
pub mod Arguments
