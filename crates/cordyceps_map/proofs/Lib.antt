mod Added
mod Chained
mod Entering
mod Filling
mod Finding
mod Inserting
mod Leaving
mod Lent
pub mod Looking
mod Nulls
mod Ordered
mod Powers
mod Redirecting
mod Revalued
mod Seen
mod ShownNodes
pub mod ValueIndexes
mod Walking
