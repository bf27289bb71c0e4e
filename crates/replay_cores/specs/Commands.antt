-- Scripts in which each line is a command on a core.
use Rattle.std.specs.Prelude.{ℕ, List, [], ◌∷◌, Option}
use Rattle.std.specs.Option.{option_map}
use Rattle.replay_driver.specs.Script.{Machine}
use Rattle.replay_lines.specs.CoreReplies.{CoreLine, core_text}

-- the core after a command, and the text of its one reply line
abbrev pub with_core_text : {M : Type 0} → M × CoreLine → M × List (List ℕ)
with_core_text next = (next.0, core_text next.1 ∷ [])

-- Each good line is a command on a core, and its reply line is its text. The end completes nothing.
abbrev pub core_commands_machine : {M C : Type 0} → (List ℕ → Option C) → (M → C → M × CoreLine) → Machine M
core_commands_machine command_of step =
    record {
      step = λ state line. option_map (λ command. with_core_text (step state command)) (command_of line);
      ending = λ state. [];
      last = λ state. state;
    }
