-- Lemmas for users of stable lists and heaps, as the crates below prove them.
pub use Rattle.cordyceps_base.proofs.SpotsMemory.{same_ptr_eq, same_ptr_refl}
pub use Rattle.cordyceps_heap.proofs.Apart
pub use Rattle.cordyceps_heap.proofs.Kept
pub use Rattle.cordyceps_heap.proofs.Standing
pub use Rattle.cordyceps_many.proofs.Fewer
pub use Rattle.cordyceps_many.proofs.Indexes
pub use Rattle.cordyceps_many.proofs.Members
pub use Rattle.cordyceps_many.proofs.Threads
pub use Rattle.cordyceps_many.proofs.ValueAt
pub use Rattle.cordyceps_map.proofs.Looking
pub use Rattle.cordyceps_map.proofs.ValueIndexes
pub use Rattle.cordyceps_stable.proofs.Agreeing
pub use Rattle.cordyceps_stable.proofs.Arranged
pub use Rattle.cordyceps_stable.proofs.Arrivals
pub use Rattle.cordyceps_stable.proofs.Classes
pub use Rattle.cordyceps_stable.proofs.Holding
pub use Rattle.cordyceps_stable.proofs.Reached
pub use Rattle.cordyceps_stable.proofs.Valid
pub use Rattle.cordyceps_stable.proofs.Walk
