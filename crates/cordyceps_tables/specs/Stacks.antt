-- What commands do to a table of stacks, each with its newest element first.
use Rattle.std.specs.Prelude.{ℕ, List, [], ◌∷◌, length, drop, map, Some, slice_get, slice_set, if◌then◌else◌}
use Rattle.std.specs.Prelude.{nat_eq, ◌&&◌, not}
use Rattle.cordyceps_base.specs.Element.{values}
pub use Rattle.cordyceps_commands.specs.StackCommands.{Fits}
use Rattle.cordyceps_commands.specs.declared.stack_command.StackCommand.{StackCommand}
use Rattle.cordyceps_commands.specs.declared.stack_command.StackCommand.TheVariants as commands
use Rattle.cordyceps_commands.specs.Replies.{Line, done, truth, show, not_there, found_or_nothing}
use Rattle.cordyceps_tables.specs.Tables.{Table, element_of, held_at, on}

-- all that one stack holds goes to another, which must be empty
abbrev pub take_all : Table → ℕ → ℕ → Table × List Line
take_all table from to =
    if not (nat_eq from to) && nat_eq (length (held_at table to)) 0
    then (slice_set (slice_set table from []) to (held_at table from), done ∷ [])
    else (table, not_there ∷ [])

-- the table after a command, and the replies to the command's lines
abbrev pub step : Table → StackCommand → Table × List Line
step table (commands.Push stack item) = on table stack (λ s. (element_of item ∷ s, truth (nat_eq (length s) 0) ∷ []))
step table (commands.Pop stack) = on table stack (λ s. (drop 1 s, found_or_nothing (slice_get (values s) 0) ∷ []))
step table (commands.TakeAll stack to) = take_all table stack to
step table (commands.IsEmpty stack) = (table, truth (nat_eq (length (held_at table stack)) 0) ∷ [])
step table (commands.Drain stack) = on table stack (λ s. ([], show (map Some (values s)) ∷ []))
