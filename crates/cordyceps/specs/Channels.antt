-- What the calls of channels promise, as the crate below defines it.
pub use Rattle.cordyceps_channel.specs.Channels
pub use Rattle.cordyceps_channel.specs.Selects
pub use Rattle.cordyceps_channel.specs.declared.errors.Disconnected
pub use Rattle.cordyceps_channel.specs.declared.errors.RecvTimeoutError
pub use Rattle.cordyceps_channel.specs.declared.errors.TryRecvError
pub use Rattle.cordyceps_channel.specs.declared.errors.TrySendError
