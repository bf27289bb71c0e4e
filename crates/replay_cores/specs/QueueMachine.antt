-- What the lines of mode queue do.
use Rattle.std.specs.Prelude.{ℕ, List, length, Result, Ok, Err, slice_get, if◌then◌else◌, nat_lt}
use Rattle.cordyceps_commands.specs.declared.item.Item.{Item}
use Rattle.cordyceps_base.specs.Runs.{after}
use Rattle.cordyceps_queue.specs.declared.cores.steps.QueueStep.{QueueStep}
use Rattle.cordyceps_queue.specs.declared.cores.steps.QueueStep.TheVariants.{Clear, Swap, Link, Take, ReadNext}
use Rattle.cordyceps_queue.specs.declared.cores.steps.QueueStep.TheVariants.{ReadHead, Give}
use Rattle.cordyceps_queue.specs.declared.cores.steps.QueueAnswer.TheVariants.{Done, Taken, Busy, Out, Empty}
use Rattle.cordyceps_queue.specs.declared.cores.steps.QueueAnswer.TheVariants.{Inconsistent}
use Rattle.cordyceps_queue.specs.declared.cores.steps.TryDequeueError.{TryDequeueError}
use Rattle.cordyceps_queue.specs.declared.cores.steps.TryDequeueError.TheVariants.{Empty as FindsEmpty}
use Rattle.cordyceps_queue.specs.declared.cores.steps.TryDequeueError.TheVariants.{Inconsistent as FindsInconsistent}
use Rattle.cordyceps_queue.specs.declared.cores.steps.TryDequeueError.TheVariants.{Busy as FindsBusy}
use Rattle.cordyceps_queue.specs.Cores.Machine.{Answered, after_step}
use Rattle.cordyceps_queue.specs.Cores.CoreMeets.{core_step, new_machine, with_party, with_room}
use Rattle.cordyceps_queue.specs.Cores.Alone.{enqueue_steps, is_ready, may_dequeue, after_dequeue, found_of}
use Rattle.cordyceps_queue.specs.Cores.Drain.{may_drain, after_batch, came_out, stop_of, batch_of}
use Rattle.cordyceps_queue.specs.Cores.Machine as cores
use Rattle.replay_driver.specs.Script.{Machine}
use Rattle.replay_cores.specs.Commands.{core_commands_machine}
use Rattle.replay_lines.specs.CoreReplies.{CoreLine, party, done, found, busy, empty, inconsistent, show, not_there}
use Rattle.replay_lines.specs.QueueScript.{command_of}
use Rattle.replay_lines.specs.declared.queue_command.QueueCommand.{QueueCommand}
use Rattle.replay_lines.specs.declared.queue_command.QueueCommand.TheVariants as commands

-- a queue's core of items
abbrev pub Core : Type 0
Core = cores.Machine Item

-- the reply that tells a step's answer
abbrev pub reply_to_step : Answered Item → CoreLine
reply_to_step (Ok Done) = done
reply_to_step (Ok Taken) = done
reply_to_step (Ok Busy) = busy
reply_to_step (Ok (Out item)) = found item
reply_to_step (Ok Empty) = empty
reply_to_step (Ok Inconsistent) = inconsistent
reply_to_step (Err refused) = not_there

-- the reply that tells why a try to dequeue gave nothing
abbrev pub reply_to_error : TryDequeueError → CoreLine
reply_to_error FindsEmpty = empty
reply_to_error FindsInconsistent = inconsistent
reply_to_error FindsBusy = busy

-- the reply that tells what a try to dequeue found
abbrev pub reply_to_try : Result Item TryDequeueError → CoreLine
reply_to_try (Ok item) = found item
reply_to_try (Err error) = reply_to_error error

-- the reply that tells what several tries took out, or why they took out nothing
abbrev pub reply_to_batch : Result (List Item) TryDequeueError → CoreLine
reply_to_batch (Ok items) = show items
reply_to_batch (Err error) = reply_to_error error

-- a party's step, and its answer
abbrev pub takes_step : Core → ℕ → QueueStep Item → Core × CoreLine
takes_step m p s = let out = after_step m p s in (out.0, reply_to_step out.1)

-- a party's try to dequeue, and what it found
abbrev pub tries_once : Core → ℕ → Core × CoreLine
tries_once m p = let out = after_dequeue m p in (out.0, reply_to_try (found_of out.1))

-- a party's tries for up to n items, and what they took out
abbrev pub takes_batch : Core → ℕ → ℕ → Core × CoreLine
takes_batch m p n = let d = after_batch p n m in (d.0, reply_to_batch (batch_of (came_out d) (stop_of d)))

-- the core after a command, and the reply
abbrev pub step : Core → QueueCommand → Core × CoreLine
step m commands.Party = (with_party m, party (length m.parties))
step m (commands.Room p) = if nat_lt p (length m.parties) then (with_room m p, done) else (m, not_there)
step m (commands.Clear p item) = takes_step m p (Clear item)
step m (commands.Swap p) = takes_step m p Swap
step m (commands.Link p) = takes_step m p Link
step m (commands.Take p) = takes_step m p Take
step m (commands.ReadNext p) = takes_step m p ReadNext
step m (commands.ReadHead p) = takes_step m p ReadHead
step m (commands.Give p) = takes_step m p Give
step m (commands.Enqueue p item) =
    if is_ready m p then (after core_step m (enqueue_steps p item), done) else (m, not_there)
step m (commands.Dequeue p) = if may_dequeue (slice_get m.parties p) then tries_once m p else (m, not_there)
step m (commands.Batch p n) = if may_drain n (slice_get m.parties p) then takes_batch m p n else (m, not_there)

-- each line is a command on the core
abbrev pub queue_machine : Machine Core
queue_machine = core_commands_machine command_of step

-- the core with which a script begins
abbrev pub new_core : Core
new_core = new_machine
