-- The types of commands, of the items that they name and of the replies to them, as the crates below declare them.
pub use Rattle.cordyceps_commands.specs.declared.item.Item
pub use Rattle.cordyceps_commands.specs.declared.list_command.CursorCommand
pub use Rattle.cordyceps_commands.specs.declared.list_command.Filter
pub use Rattle.cordyceps_commands.specs.declared.list_command.ListCommand
pub use Rattle.cordyceps_commands.specs.declared.list_command.ListEnd
pub use Rattle.cordyceps_commands.specs.declared.list_command.Turn
pub use Rattle.cordyceps_commands.specs.declared.reply.Reply
pub use Rattle.cordyceps_commands.specs.declared.sorted_command.SortedCommand
pub use Rattle.cordyceps_commands.specs.declared.stack_command.StackCommand
