pub mod Channels
pub mod Places
pub mod Selects
pub mod Takers
