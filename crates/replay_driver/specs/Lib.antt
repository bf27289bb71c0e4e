pub mod Asked
pub mod Known
pub mod Script
pub mod Steps
pub mod Halts
pub mod Faults
pub mod Streams
