-- What the steps and calls of a transfer stack's core do to its machine, as the crates below define it.
pub use Rattle.cordyceps_base.specs.Runs.{after}
pub use Rattle.cordyceps_stack.specs.declared.cores.steps.TransferStep.{TransferStep}
pub use Rattle.cordyceps_stack.specs.declared.cores.steps.TransferStep.TheVariants.{Load, SetNext, Exchange, Take, Walk}
pub use Rattle.cordyceps_stack.specs.declared.cores.steps.TransferAnswer.TheVariants.{Done, Pushed, Failed, Taken}
pub use Rattle.cordyceps_stack.specs.declared.cores.steps.TransferAnswer.TheVariants.{Nothing, Gives, Last}
pub use Rattle.cordyceps_stack.specs.Cores.CoreMeets.{core_step}
pub use Rattle.cordyceps_stack.specs.Cores.Alone.{push_steps, take_steps}
pub use Rattle.cordyceps_stack.specs.Cores.Machine.{Machine, Answered, new_machine, with_party, with_room, held_in}
pub use Rattle.cordyceps_stack.specs.Cores.Machine.{after_step, is_there, step_element, is_at_rest, is_ready}
pub use Rattle.cordyceps_stack.specs.Cores.Alone
pub use Rattle.cordyceps_stack.specs.Cores.CoreMeets
pub use Rattle.cordyceps_stack.specs.Cores.Walks
