-- What a contract sees of elements and of nodes, as the crates below define it.
pub use Rattle.cordyceps_base.specs.Element
pub use Rattle.cordyceps_base.specs.Nodes
