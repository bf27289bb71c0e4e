pub mod Blocked
pub mod BothWays
pub mod CoreTheory
pub mod HistoryEnds
pub mod Legality
pub mod PartyOrder
pub mod SharedTheory
