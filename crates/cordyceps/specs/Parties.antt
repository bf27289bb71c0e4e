-- What a contract sees of parties of shared collections, as the crates below define it.
pub use Rattle.atomic_table.specs.Seated
pub use Rattle.cordyceps_shared.specs.Acting
pub use Rattle.cordyceps_shared.specs.Counts
pub use Rattle.cordyceps_shared.specs.Histories
pub use Rattle.cordyceps_shared.specs.Interleaving
pub use Rattle.cordyceps_shared.specs.Knowing
pub use Rattle.cordyceps_shared.specs.Sending
pub use Rattle.cordyceps_shared.specs.Shares
pub use Rattle.cordyceps_shared.specs.Standings
