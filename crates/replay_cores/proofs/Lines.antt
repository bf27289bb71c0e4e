-- What a line that is a command on a core does.
use Rattle.std.proofs.Common.{◌≡◌, ℕ, List, [], ◌∷◌, Option, Some, refl, sym, ◌∙◌, ap}
use Rattle.replay_cores.specs.Commands.{with_core_text, core_commands_machine}
use Rattle.replay_lines.specs.CoreReplies.{CoreLine, core_text}

module _ {M C : Type 0} (command_of : List ℕ → Option C) (step : M → C → M × CoreLine) where
  pub core_taken : (state : M) (line : List ℕ) (command : C) → Some command ≡ command_of line → (core_commands_machine command_of step).step state line ≡ Some (with_core_text (step state command))
  core_taken state line command is = rw (← is) refl

  pub core_taken_as : (state new : M) (line : List ℕ) (command : C) (reply : CoreLine) → Some command ≡ command_of line → (new, reply) ≡ step state command →
      (core_commands_machine command_of step).step state line ≡ Some (new, core_text reply ∷ [])
  core_taken_as state new line command reply is done = core_taken state line command is ∙ ap (λ (r : M × CoreLine). Some (with_core_text r)) (sym done)

-- the core after a command that was run
pub core_ran : {M : Type 0} (next : M × CoreLine) (new : M) (reply : CoreLine) → (new, reply) ≡ next → new ≡ next.0
core_ran next new reply is = ap (λ (r : _ × CoreLine). r.0) is
