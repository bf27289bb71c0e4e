pub mod Cores
pub mod History
pub mod Laws
pub mod Shared
