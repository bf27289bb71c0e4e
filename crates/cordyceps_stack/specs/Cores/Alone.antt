-- Whole calls that one party runs alone, each by the steps that it takes.
use Rattle.std.specs.Prelude.{ℕ, List, [], ◌∷◌, replicate}
use Rattle.cordyceps_stack.specs.declared.cores.steps.TransferStep.{TransferStep}
use Rattle.cordyceps_stack.specs.declared.cores.steps.TransferStep.TheVariants as step

module _ {E : Type 0} where
  -- the steps of a push that one party runs alone
  abbrev pub push_steps : ℕ → E → List (ℕ × TransferStep E)
  push_steps p e = (p, step.Load e) ∷ (p, step.SetNext) ∷ (p, step.Exchange) ∷ []

  -- the steps of a taking that one party runs alone, and of its walk through so many elements
  abbrev pub take_steps : ℕ → ℕ → List (ℕ × TransferStep E)
  take_steps p walks = (p, step.Take) ∷ replicate walks (p, step.Walk)
