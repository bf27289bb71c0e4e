-- What a contract sees of orders and of what they arrange, as the crates below define it.
pub use Rattle.cordyceps_single.specs.Arrangement
pub use Rattle.cordyceps_single.specs.ByFn
pub use Rattle.cordyceps_single.specs.ByKey
pub use Rattle.cordyceps_single.specs.Grow
pub use Rattle.cordyceps_single.specs.Place
pub use Rattle.cordyceps_single.specs.Preorder
