-- When a step is refused, and what that leaves.
use Rattle.std.proofs.Common.{◌≡◌, ◌≢◌, ℕ, zero, suc, refl, Bool, true, false}
use Rattle.std.specs.Prelude.{Option, Some, None, slice_get, is_ok, is_some, nat_eq, IfErr}
use Rattle.cordyceps_base.specs.declared.shared.StepError.TheVariants.{NotThere}
use Rattle.cordyceps_queue.specs.declared.cores.stage.Stage.{Stage}
use Rattle.cordyceps_queue.specs.declared.cores.stage.Stage.TheVariants.{Rest, Cleared, Swapped, Holding, StubNull, Second, Null, PutClear, PutSwap, PutLink, PutRead}
use Rattle.cordyceps_queue.specs.declared.cores.steps.QueueStep.{QueueStep}
use Rattle.cordyceps_queue.specs.declared.cores.steps.QueueStep.TheVariants as step
use Rattle.cordyceps_shared.specs.Rooms.{element_in, next_in}
use Rattle.cordyceps_queue.specs.Cores.Machine.{Machine, Outcome, step_element, least_free, clear, take, hand_out, read_stub, read, read_again, look, head_stub, head_tail, may_take_at, is_there, after_step_at, after_step}
use Rattle.cordyceps_queue.specs.Cores.CoreMeets.{IsSound}
use Rattle.cordyceps_queue.proofs.CoreTheory.Basics.{none_some, suc_zero}
use Rattle.cordyceps_queue.proofs.CoreTheory.RoomsAtStages.{holding_full, second_full, put_read_full}

module _ {E : Type 0} where
  -- accepted exactly where the step is there; a refusal changes nothing and hands the element back
  abbrev pub Exact : Machine E → QueueStep E → Bool → Outcome E → Type 0
  Exact m s there out = (is_ok out.1 ≡ there) × IfErr out.1 (λ e. (e ≡ (NotThere, step_element s)) × (out.0 ≡ m))

  abbrev Full : Option E → Type 0
  Full o = (e : E) × (o ≡ Some e)

  exact_clear : (m : Machine E) (p : ℕ) (e : E) (o : Option ℕ) → Exact m (step.Clear (Some e)) (is_some o) (clear m p e o)
  exact_clear m p e None = (refl, (refl, refl))
  exact_clear m p e (Some r) = (refl, tt)

  exact_take : (m : Machine E) (p : ℕ) (o : Option ℕ) → Exact m step.Take true (take m p o)
  exact_take m p None = (refl, tt)
  exact_take m p (Some t) = (refl, tt)

  exact_out : (m : Machine E) (p t r : ℕ) (o : Option E) → Full o → Exact m step.ReadNext true (hand_out m p t r o)
  exact_out m p t r None f = absurd (none_some f.1)
  exact_out m p t r (Some e) f = (refl, tt)

  exact_read_stub : (m : Machine E) (p : ℕ) (n : Option ℕ) → Exact m step.ReadNext true (read_stub m p n)
  exact_read_stub m p None = (refl, tt)
  exact_read_stub m p (Some r) = (refl, tt)

  exact_read : (m : Machine E) (p t : ℕ) (n : Option ℕ) → Full (element_in (slice_get m.rooms t)) → Exact m step.ReadNext true (read m p t n)
  exact_read m p t None f = (refl, tt)
  exact_read m p t (Some r) f = exact_out m p t r (element_in (slice_get m.rooms t)) f

  exact_read_again : (m : Machine E) (p t : ℕ) (n : Option ℕ) → Full (element_in (slice_get m.rooms t)) → Exact m step.ReadNext true (read_again m p t n)
  exact_read_again m p t None f = (refl, tt)
  exact_read_again m p t (Some r) f = exact_out m p t r (element_in (slice_get m.rooms t)) f

  exact_look : (m : Machine E) (p t : ℕ) (n : Option ℕ) → (t ≢ 0 → Full (element_in (slice_get m.rooms t))) → Exact m step.ReadNext true (look m p t n)
  exact_look m p zero n f = exact_read_stub m p n
  exact_look m p (suc t) n f = exact_read m p (suc t) n (f suc_zero)

  exact_head_stub : (m : Machine E) (p : ℕ) (b : Bool) → Exact m step.ReadHead true (head_stub m p b)
  exact_head_stub m p true = (refl, tt)
  exact_head_stub m p false = (refl, tt)

  exact_head_tail : (m : Machine E) (p t : ℕ) (b : Bool) → Exact m step.ReadHead true (head_tail m p t b)
  exact_head_tail m p t true = (refl, tt)
  exact_head_tail m p t false = (refl, tt)

  exact_at : (m : Machine E) (p : ℕ) (s : QueueStep E) (o : Option Stage) → IsSound m → slice_get m.parties p ≡ o → Exact m s (may_take_at (least_free p m.rooms) o s) (after_step_at m p o s)
  exact_at m p s None sound at = (refl, (refl, refl))
  exact_at m p (step.Clear (Some e)) (Some Rest) sound at = exact_clear m p e (least_free p m.rooms)
  exact_at m p step.Take (Some Rest) sound at = exact_take m p m.right
  exact_at m p step.Swap (Some (Cleared r)) sound at = (refl, tt)
  exact_at m p step.Link (Some (Swapped r old)) sound at = (refl, tt)
  exact_at m p step.ReadNext (Some (Holding t)) sound at = exact_look m p t (next_in (slice_get m.rooms t)) (λ ne. holding_full m sound p t at ne)
  exact_at m p step.Give (Some (Holding t)) sound at = (refl, tt)
  exact_at m p step.ReadHead (Some StubNull) sound at = exact_head_stub m p (nat_eq m.head 0)
  exact_at m p step.ReadNext (Some (Second t)) sound at = exact_read m p t (next_in (slice_get m.rooms t)) (second_full m sound p t at)
  exact_at m p step.ReadHead (Some (Null t)) sound at = exact_head_tail m p t (nat_eq m.head t)
  exact_at m p (step.Clear None) (Some (PutClear t)) sound at = (refl, tt)
  exact_at m p step.Swap (Some (PutSwap t)) sound at = (refl, tt)
  exact_at m p step.Link (Some (PutLink t old)) sound at = (refl, tt)
  exact_at m p step.ReadNext (Some (PutRead t)) sound at = exact_read_again m p t (next_in (slice_get m.rooms t)) (put_read_full m sound p t at)
  exact_at m p s (Some stage) sound at = (refl, (refl, refl))

  pub exact : (m : Machine E) (p : ℕ) (s : QueueStep E) → IsSound m → Exact m s (is_there m p s) (after_step m p s)
  exact m p s sound = exact_at m p s (slice_get m.parties p) sound refl
