-- Scripts in which each line is a command.
use Rattle.std.specs.Prelude.{ℕ, List, [], ◌∷◌, Option}
use Rattle.std.specs.Option.{option_map}
use Rattle.cordyceps_commands.specs.Replies.{Line}
use Rattle.replay_driver.specs.Script.{Machine}
use Rattle.replay_lines.specs.ReplyText.{text_of}

-- what a command leads to, and its text
abbrev pub with_text : {M : Type 0} → M × List Line → M × List (List ℕ)
with_text next = (next.0, text_of next.1 ∷ [])

-- Each good line is a command, and its replies are its text. The end completes nothing.
abbrev pub commands_machine : {M C : Type 0} → (List ℕ → Option C) → (M → C → M × List Line) → Machine M
commands_machine command_of step =
    record {
      step = λ state line. option_map (λ command. with_text (step state command)) (command_of line);
      ending = λ state. [];
      last = λ state. state;
    }
