pub mod Arrangement
pub mod ByFn
pub mod ByKey
pub mod Grow
pub mod Place
pub mod Preorder
