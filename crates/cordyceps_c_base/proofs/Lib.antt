pub mod Answering
pub mod Fitting
pub mod HandleWalks
pub mod Held
pub mod NodeHandles
pub mod NodesOut
pub mod Stale
pub mod Values
