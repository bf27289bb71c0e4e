-- What a run of a script in a mode reads, writes and returns.
use Rattle.std.specs.Prelude.{◌≡◌, ℕ, true, List, Option, None, Result, Ok, Err, is_some}
use Rattle.std.specs.declared.cmp.Ordering.{Ordering}
use Rattle.cordyceps_commands.specs.declared.item.Item.{Item}
use Rattle.cordyceps_tables.specs.Sorteds.{order_of}
use Rattle.cordyceps_tables.specs.Tables.{Table, empty_table}
use Rattle.replay_sessions.specs.declared.modes.Mode.{Mode}
use Rattle.replay_sessions.specs.declared.modes.Mode.TheVariants as modes
use Rattle.replay_driver.specs.declared.fault.Fault.{Fault}
use Rattle.replay_driver.specs.declared.fault.Fault.TheVariants as faults
use Rattle.replay_driver.specs.Script.{Runs}
use Rattle.replay_sessions.specs.ListMachine.{State, list_machine}
use Rattle.replay_sessions.specs.StackMachine.{stack_machine}
use Rattle.replay_sessions.specs.SortedMachine.{sorted_machine}
use Rattle.replay_cores.specs.TransferMachine as transfers
use Rattle.replay_cores.specs.QueueMachine as queues
use Rattle.replay_sessions.specs.Tens.{by_tens}

-- there is a reason exactly after a bad line
abbrev pub TellsWhy : {R : Type 0} → Result (Unit {0}) Fault → Option R → Type 0
TellsWhy (Err (faults.BadLine n)) why = is_some why ≡ true
TellsWhy (Err faults.Read) why = why ≡ None
TellsWhy (Err faults.Write) why = why ≡ None
TellsWhy (Err faults.Memory) why = why ≡ None
TellsWhy (Ok _) why = why ≡ None

module _ {F : Type 0} where
  -- the function of mode sorted is one of these
  abbrev pub IfSorted : Mode F → (F → Type 0) → Type 0
  IfSorted (modes.Sorted by) These = These by
  IfSorted modes.List These = Unit {0}
  IfSorted modes.Stack These = Unit {0}
  IfSorted modes.Transfer These = Unit {0}
  IfSorted modes.Queue These = Unit {0}

  -- sixteen structures that are empty at first, or a new core; items are ordered by `own`
  abbrev pub RunsIn : (own : Item → Item → Ordering) → Mode F → (gave : List ℕ → Type 0) →
      (ended read_failed : Type 0) → (took : List ℕ → Type 0) → (write_failed : Type 0) → Result (Unit {0}) Fault →
      Type 0
  RunsIn own modes.List gave ended read_failed took write_failed result =
      (left : State) × Runs list_machine (empty_table 16, None) left gave ended read_failed took write_failed result
  RunsIn own modes.Stack gave ended read_failed took write_failed result =
      (left : Table) × Runs stack_machine (empty_table 16) left gave ended read_failed took write_failed result
  RunsIn own (modes.Sorted by) gave ended read_failed took write_failed result =
      (left : Table) × Runs (sorted_machine (order_of own by_tens)) (empty_table 16) left gave ended read_failed took
      write_failed result
  RunsIn own modes.Transfer gave ended read_failed took write_failed result =
      (left : transfers.Core) × Runs transfers.transfer_machine transfers.new_core left gave ended read_failed took
      write_failed result
  RunsIn own modes.Queue gave ended read_failed took write_failed result =
      (left : queues.Core) × Runs queues.queue_machine queues.new_core left gave ended read_failed took write_failed
      result
