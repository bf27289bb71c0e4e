pub mod Arrangement
pub mod Elements
pub mod Grown
pub mod Keys
pub mod Places
pub mod Preorder
pub mod Puts
pub mod Taken
