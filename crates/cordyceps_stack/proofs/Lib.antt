pub mod CoreTheory
pub mod Histories
pub mod SharedTheory
