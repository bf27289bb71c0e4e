-- When a step is refused, and what that leaves.
use Rattle.std.proofs.Common.{◌≡◌, ℕ, refl, subst, true, false}
use Rattle.std.specs.Prelude.{Option, Some, None, slice_get, is_ok, is_some, nat_eq, Bool, IfErr}
use Rattle.std.specs.Option.{option_eq}
use Rattle.cordyceps_base.specs.declared.shared.StepError.TheVariants.{NotThere}
use Rattle.cordyceps_stack.specs.declared.cores.steps.TransferStep.{TransferStep}
use Rattle.cordyceps_stack.specs.declared.cores.steps.TransferStep.TheVariants as step
use Rattle.cordyceps_stack.specs.declared.cores.stage.Attempt.{Attempt}
use Rattle.cordyceps_stack.specs.declared.cores.stage.Stage.{Stage}
use Rattle.cordyceps_stack.specs.declared.cores.stage.Stage.TheVariants.{Rest, Loaded, Set, Walking}
use Rattle.cordyceps_stack.specs.Cores.Machine.{Machine, Outcome, acts, step_element, least_free, load, exchange, take, may_take, is_there, after_step, after_step_at}
use Rattle.cordyceps_stack.specs.Cores.CoreMeets.{IsSound}
use Rattle.cordyceps_stack.proofs.CoreTheory.CoreKeeps.{set_room, walking_room}

module _ {E : Type 0} where
  -- accepted exactly where the step is there; a refusal changes nothing and hands the element back
  abbrev pub Exact : Machine E → TransferStep E → Bool → Outcome E → Type 0
  Exact m s there out = (is_ok out.1 ≡ there) × IfErr out.1 (λ e. (e ≡ (NotThere, step_element s)) × (out.0 ≡ m))

  exact_load : (m : Machine E) (p : ℕ) (e : E) (o : Option ℕ) → Exact m (step.Load e) (is_some o) (load m p e o)
  exact_load m p e None = (refl, (refl, refl))
  exact_load m p e (Some r) = (refl, tt)

  exact_exchange : (m : Machine E) (p : ℕ) (a : Attempt) (b : Bool) → IsSound m → slice_get m.parties p ≡ Some (Set a)
      → Exact m step.Exchange true (exchange m p a b)
  exact_exchange m p a true s at = (refl, tt)
  exact_exchange m p a false s at = rw (set_room m p a s at).at (refl, tt)

  exact_take : (m : Machine E) (p : ℕ) (o : Option ℕ) → Exact m step.Take true (take m p o)
  exact_take m p None = (refl, tt)
  exact_take m p (Some r) = (refl, tt)

  exact_at : (m : Machine E) (p : ℕ) (s : TransferStep E) (o : Option Stage) → IsSound m → slice_get m.parties p ≡ o
      → Exact m s (may_take m p s o) (after_step_at m p s o)
  exact_at m p (step.Load e) (Some Rest) sound at = exact_load m p e (least_free p m.rooms)
  exact_at m p step.SetNext (Some (Loaded a)) sound at = (refl, tt)
  exact_at m p step.Exchange (Some (Set a)) sound at = exact_exchange m p a (option_eq nat_eq m.head a.read) sound at
  exact_at m p step.Take (Some Rest) sound at = exact_take m p m.head
  exact_at m p step.Walk (Some (Walking r)) sound at = rw (walking_room m p r sound at).at (refl, tt)
  exact_at m p s o sound at = (refl, (refl, refl))

  pub exact : (m : Machine E) (p : ℕ) (s : TransferStep E) → IsSound m → Exact m s (is_there m p s) (after_step m p s)
  exact m p s sound = exact_at m p s (slice_get m.parties p) sound refl

  -- the same, where it is known at which stage the party is
  pub exact_act : (m : Machine E) (p : ℕ) (s : TransferStep E) (stage : Stage) → IsSound m
      → slice_get m.parties p ≡ Some stage → Exact m s (is_there m p s) (acts m p s stage)
  exact_act m p s stage sound at = subst (λ (o : Option Stage). Exact m s (is_there m p s) (after_step_at m p s o)) at (exact m p s sound)
