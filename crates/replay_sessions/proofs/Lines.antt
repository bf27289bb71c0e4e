-- What a line that is a command does.
use Rattle.std.proofs.Common.{◌≡◌, ℕ, List, [], ◌∷◌, Option, Some, refl, sym, ◌∙◌, ap}
use Rattle.cordyceps_commands.specs.Replies.{Line}
use Rattle.replay_sessions.specs.Commands.{with_text, commands_machine}
use Rattle.replay_lines.specs.ReplyText.{text_of}

module _ {M C : Type 0} (command_of : List ℕ → Option C) (step : M → C → M × List Line) where
  pub taken : (state : M) (line : List ℕ) (command : C) → Some command ≡ command_of line → (commands_machine command_of step).step state line ≡ Some (with_text (step state command))
  taken state line command is = rw (← is) refl

  pub taken_as : (state new : M) (line : List ℕ) (command : C) (replies : List Line) → Some command ≡ command_of line → (new, replies) ≡ step state command →
      (commands_machine command_of step).step state line ≡ Some (new, text_of replies ∷ [])
  taken_as state new line command replies is done = taken state line command is ∙ ap (λ (r : M × List Line). Some (with_text r)) (sym done)

-- the state after a command that was run
pub ran : {M : Type 0} (next : M × List Line) (new : M) (replies : List Line) → (new, replies) ≡ next → new ≡ next.0
ran next new replies is = ap (λ (r : _ × List Line). r.0) is
