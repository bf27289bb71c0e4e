pub mod Bells
pub mod Cores
pub mod History
pub mod Laws
pub mod Past
pub mod Shared
