pub mod Blocks
pub mod Filters
pub mod Lists
pub mod Plays
pub mod Sorteds
pub mod Stacks
pub mod Tables
pub mod Walks
