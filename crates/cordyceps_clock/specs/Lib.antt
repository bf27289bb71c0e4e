pub mod Buckets
pub mod Clock
