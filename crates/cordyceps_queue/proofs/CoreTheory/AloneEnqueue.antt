-- A whole enqueue that one party runs alone.
use Rattle.std.proofs.Common.{◌≡◌, ℕ, ◌≤◌, true, List, [], ◌∷◌, ◌++◌, length, drop, refl, ap, sym, ◌∙◌, subst, append_assoc, append-nil, length-append, arith}
use Rattle.std.specs.Prelude.{Option, Some, slice_get, is_some}
use Rattle.std.proofs.lemmas.List.{drop-append-le}
use Rattle.cordyceps_base.specs.Runs.{after}
use Rattle.cordyceps_queue.specs.declared.cores.stage.Stage.{Stage}
use Rattle.cordyceps_queue.specs.declared.cores.stage.Stage.TheVariants.{Rest, Cleared, Swapped}
use Rattle.cordyceps_queue.specs.declared.cores.steps.QueueStep.TheVariants as step
use Rattle.cordyceps_queue.specs.declared.cores.steps.QueueAnswer.TheVariants as answer
use Rattle.cordyceps_queue.specs.History.{Event, Swap, Link, came, went, held, comes, goes}
use Rattle.cordyceps_shared.specs.Rooms.{element_in}
use Rattle.cordyceps_queue.specs.Cores.Machine.{Machine, least_free, comes_in, with_element, after_step_at, after_step, clear, swap, link}
use Rattle.cordyceps_queue.specs.Cores.CoreMeets.{CoreMeets, core_step}
use Rattle.cordyceps_queue.specs.Cores.Alone.{is_rest, is_ready, enqueue_steps}
use Rattle.cordyceps_shared.proofs.Choices.{both_from, some_from}
use Rattle.std.proofs.lemmas.List.Concat.{flat_map-append}
use Rattle.cordyceps_shared.proofs.ListWrites.{slice_get-set_same, slice_get-change_same}
use Rattle.cordyceps_queue.proofs.CoreTheory.ListWrites.{get_within}
use Rattle.cordyceps_queue.proofs.CoreTheory.RoomsAtStages.{free_within}
use Rattle.cordyceps_queue.proofs.CoreTheory.AloneTry.{step_met}

rest_from : (o : Option Stage) → is_rest o ≡ true → o ≡ Some Rest
rest_from (Some Rest) e = refl
rest_from o e = let no : ⊥ = cc in absurd no

module _ {E : Type 0} where
  -- the element is held last
  held_last : (h : List (Event ℕ E)) (m : Machine E) (p : ℕ) (e : E) → CoreMeets h m → held (h ++ Swap p e ∷ Link p ∷ []) ≡ held h ++ e ∷ []
  held_last h m p e was =
      let w = was.legal.in_order h [] (sym (append-nil h)) in
      let le : length (went h) ≤ length (came h) = omega (arith, ap length w.1, length-append (went h) w.0) in
      ap (λ l. drop (length l) (came (h ++ Swap p e ∷ Link p ∷ []))) (flat_map-append goes h (Swap p e ∷ Link p ∷ []) ∙ append-nil (went h))
      ∙ ap (drop (length (went h))) (flat_map-append comes h (Swap p e ∷ Link p ∷ [])) ∙ drop-append-le (length (went h)) (came h) (e ∷ []) le

  module _ (h : List (Event ℕ E)) (m : Machine E) (p : ℕ) (e : E) (was : CoreMeets h m) (r : ℕ) (at : slice_get m.parties p ≡ Some Rest) (free : least_free p m.rooms ≡ Some r) where
    abbrev cleared_machine : Machine E
    cleared_machine = (clear m p e (Some r)).0

    abbrev swapped_machine : Machine E
    swapped_machine = (swap cleared_machine p r (Swapped r m.head)).0

    abbrev linked_machine : Machine E
    linked_machine = (link swapped_machine p m.head (Some r) Rest).0

    at_cleared : slice_get cleared_machine.parties p ≡ Some (Cleared r)
    at_cleared = slice_get-set_same m.parties p (Cleared r) Rest at

    at_swapped : slice_get swapped_machine.parties p ≡ Some (Swapped r m.head)
    at_swapped = slice_get-set_same cleared_machine.parties p (Swapped r m.head) (Cleared r) at_cleared

    steps_are : after core_step m (enqueue_steps p e) ≡ linked_machine
    steps_are =
        ap (λ (n : Machine E). (after_step (after_step n p step.Swap).0 p step.Link).0) (ap (λ o. (after_step_at m p o (step.Clear (Some e))).0) at ∙ ap (λ o. (clear m p e o).0) free)
        ∙ ap (λ (n : Machine E). (after_step n p step.Link).0) (ap (λ o. (after_step_at cleared_machine p o step.Swap).0) at_cleared)
        ∙ ap (λ o. (after_step_at swapped_machine p o step.Link).0) at_swapped

    element_there : element_in (slice_get cleared_machine.rooms r) ≡ Some e
    element_there =
        let w = get_within m.rooms r (free_within m (h, was) p r at free).1 in
        ap element_in (slice_get-change_same (with_element e) m.rooms r w.0 w.1)

    met_cleared : CoreMeets h cleared_machine
    met_cleared =
        let K = step_met h m p Rest at (step.Clear (Some e)) answer.Done (ap (λ o. (clear m p e o).1) free) was in
        subst (λ l. CoreMeets l cleared_machine) (append-nil h) (subst (CoreMeets (h ++ [])) (ap (λ o. (clear m p e o).0) free) K.0)

    met_swapped : CoreMeets (h ++ Swap p e ∷ []) swapped_machine
    met_swapped =
        let K = step_met h cleared_machine p (Cleared r) at_cleared step.Swap answer.Done refl met_cleared in
        subst (λ o. CoreMeets (h ++ comes_in p o) swapped_machine) element_there K.0

    met_linked : CoreMeets (h ++ Swap p e ∷ Link p ∷ []) linked_machine
    met_linked =
        let K = step_met (h ++ Swap p e ∷ []) swapped_machine p (Swapped r m.head) at_swapped step.Link answer.Done refl met_swapped in
        subst (λ l. CoreMeets l linked_machine) (append_assoc h (Swap p e ∷ []) (Link p ∷ [])) K.0

    enqueues_at : CoreMeets (h ++ Swap p e ∷ Link p ∷ []) (after core_step m (enqueue_steps p e)) × (held (h ++ Swap p e ∷ Link p ∷ []) ≡ held h ++ e ∷ [])
    enqueues_at = (subst (CoreMeets (h ++ Swap p e ∷ Link p ∷ [])) (sym steps_are) met_linked, held_last h m p e was)

  pub enqueued_law : (h : List (Event ℕ E)) (m : Machine E) (p : ℕ) (e : E) → CoreMeets h m → is_ready m p ≡ true → CoreMeets (h ++ Swap p e ∷ Link p ∷ []) (after core_step m (enqueue_steps p e)) × (held (h ++ Swap p e ∷ Link p ∷ []) ≡ held h ++ e ∷ [])
  enqueued_law h m p e was ready =
      let two = both_from (is_rest (slice_get m.parties p)) (is_some (least_free p m.rooms)) ready in
      let free = some_from (least_free p m.rooms) two.1 in
      enqueues_at h m p e was free.0 (rest_from (slice_get m.parties p) two.0) free.1
