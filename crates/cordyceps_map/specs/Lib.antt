pub mod Chains
pub mod MapLends
pub mod Nullable
pub mod Orders
pub mod Seeded
pub mod Shown
pub mod StableMap
