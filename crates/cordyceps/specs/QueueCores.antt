-- What the steps and calls of a queue's core do to its machine, as the crates below define it.
pub use Rattle.cordyceps_base.specs.Runs.{after}
pub use Rattle.cordyceps_queue.specs.declared.cores.steps.QueueStep.{QueueStep}
pub use Rattle.cordyceps_queue.specs.declared.cores.steps.QueueStep.TheVariants.{Clear, Swap, Link, Take, ReadNext}
pub use Rattle.cordyceps_queue.specs.declared.cores.steps.QueueStep.TheVariants.{ReadHead, Give}
pub use Rattle.cordyceps_queue.specs.declared.cores.steps.QueueAnswer.TheVariants.{Done, Taken, Busy, Out, Empty}
pub use Rattle.cordyceps_queue.specs.declared.cores.steps.QueueAnswer.TheVariants.{Inconsistent}
pub use Rattle.cordyceps_queue.specs.declared.cores.steps.TryDequeueError.{TryDequeueError}
pub use Rattle.cordyceps_queue.specs.declared.cores.steps.TryDequeueError.TheVariants.{Empty as FindsEmpty, Inconsistent as FindsInconsistent, Busy as FindsBusy}
pub use Rattle.cordyceps_queue.specs.Cores.Machine.{Machine, Answered, after_step, is_there, step_element, step_events}
pub use Rattle.cordyceps_queue.specs.Cores.CoreMeets.{core_step, new_machine, with_party, with_room}
pub use Rattle.cordyceps_queue.specs.Cores.Alone.{enqueue_steps, is_ready, may_dequeue, after_dequeue, found_of}
pub use Rattle.cordyceps_queue.specs.Cores.Drain.{may_drain, after_batch, came_out, stop_of, batch_of, batch_as_list}
pub use Rattle.cordyceps_queue.specs.Cores.Alone
pub use Rattle.cordyceps_queue.specs.Cores.CoreMeets
pub use Rattle.cordyceps_queue.specs.Cores.Drain
