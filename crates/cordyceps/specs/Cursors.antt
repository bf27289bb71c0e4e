-- What a contract sees of lists, their cursors and iterators, as the crates below define it.
pub use Rattle.cordyceps_list.specs.Cursor
pub use Rattle.cordyceps_list.specs.DrainFilter
pub use Rattle.cordyceps_list.specs.Filter
pub use Rattle.cordyceps_list.specs.GrowsBy
pub use Rattle.cordyceps_list.specs.IterMut
pub use Rattle.cordyceps_list.specs.Lending
pub use Rattle.cordyceps_list.specs.Places
pub use Rattle.cordyceps_list.specs.Position
pub use Rattle.cordyceps_list.specs.Walks
