pub mod Blocks
pub mod Users
pub mod Whereabouts
