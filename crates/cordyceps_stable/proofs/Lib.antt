pub mod Agreeing
pub mod Arranged
pub mod Arrivals
pub mod Classes
pub mod Firsts
pub mod Holding
mod Parts
pub mod Reached
mod Spots
pub mod Valid
pub mod Walk
