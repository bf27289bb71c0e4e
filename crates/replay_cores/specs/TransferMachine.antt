-- What the lines of mode transfer do.
use Rattle.std.specs.Prelude.{ℕ, length, Ok, Err, is_none, if◌then◌else◌, nat_lt}
use Rattle.cordyceps_commands.specs.declared.item.Item.{Item}
use Rattle.cordyceps_base.specs.Runs.{after}
use Rattle.cordyceps_stack.specs.declared.cores.steps.TransferStep.{TransferStep}
use Rattle.cordyceps_stack.specs.declared.cores.steps.TransferStep.TheVariants.{Load, SetNext, Exchange, Take, Walk}
use Rattle.cordyceps_stack.specs.declared.cores.steps.TransferAnswer.TheVariants.{Done, Pushed, Failed, Taken, Nothing}
use Rattle.cordyceps_stack.specs.declared.cores.steps.TransferAnswer.TheVariants.{Gives, Last}
use Rattle.cordyceps_stack.specs.Cores.CoreMeets.{core_step}
use Rattle.cordyceps_stack.specs.Cores.Alone.{push_steps, take_steps}
use Rattle.cordyceps_stack.specs.Cores.Machine.{Answered, new_machine, with_party, with_room, held_in, after_step}
use Rattle.cordyceps_stack.specs.Cores.Machine.{is_at_rest, is_ready}
use Rattle.cordyceps_stack.specs.Cores.Machine as cores
use Rattle.replay_driver.specs.Script.{Machine}
use Rattle.replay_cores.specs.Commands.{core_commands_machine}
use Rattle.replay_lines.specs.CoreReplies.{CoreLine, party, done, truth, found, last, failed, taken, nothing, show}
use Rattle.replay_lines.specs.CoreReplies.{not_there}
use Rattle.replay_lines.specs.TransferScript.{command_of}
use Rattle.replay_lines.specs.declared.transfer_command.TransferCommand.{TransferCommand}
use Rattle.replay_lines.specs.declared.transfer_command.TransferCommand.TheVariants as commands

-- a transfer core of items
abbrev pub Core : Type 0
Core = cores.Machine Item

-- the reply that tells a step's answer
abbrev pub reply_to_step : Answered Item → CoreLine
reply_to_step (Ok Done) = done
reply_to_step (Ok (Pushed was_empty)) = truth was_empty
reply_to_step (Ok (Failed item)) = failed item
reply_to_step (Ok Taken) = taken
reply_to_step (Ok Nothing) = nothing
reply_to_step (Ok (Gives item)) = found item
reply_to_step (Ok (Last item)) = last item
reply_to_step (Err refused) = not_there

-- a party's step, and its answer
abbrev pub takes_step : Core → ℕ → TransferStep Item → Core × CoreLine
takes_step m p s = let out = after_step m p s in (out.0, reply_to_step out.1)

-- the core after a command, and the reply
abbrev pub step : Core → TransferCommand → Core × CoreLine
step m commands.Party = (with_party m, party (length m.parties))
step m (commands.Room p) = if nat_lt p (length m.parties) then (with_room m p, done) else (m, not_there)
step m (commands.Load p item) = takes_step m p (Load item)
step m (commands.SetNext p) = takes_step m p SetNext
step m (commands.Exchange p) = takes_step m p Exchange
step m (commands.Take p) = takes_step m p Take
step m (commands.Walk p) = takes_step m p Walk
step m (commands.Push p item) =
    if is_ready m p then (after core_step m (push_steps p item), truth (is_none m.head)) else (m, not_there)
step m (commands.TakeAll p) =
    if is_at_rest m p then (after core_step m (take_steps p (length (held_in m))), show (held_in m)) else (m, not_there)

-- each line is a command on the core
abbrev pub transfer_machine : Machine Core
transfer_machine = core_commands_machine command_of step

-- the core with which a script begins
abbrev pub new_core : Core
new_core = new_machine
