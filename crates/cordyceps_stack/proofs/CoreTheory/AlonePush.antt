-- Whole calls that one party runs alone.
use Rattle.std.proofs.Common.{◌≡◌, ℕ, List, [], ◌∷◌, ◌++◌, set, refl, ap, sym, ◌∙◌, subst, true, Ok}
use Rattle.std.specs.Prelude.{Option, Some, None, slice_get, nat_eq, is_none, is_some, ◌↔◌}
use Rattle.std.specs.Option.{option_eq}
use Rattle.std.proofs.lemmas.List.{append-nil}
use Rattle.std.proofs.lemmas.Bool.{eq-eqb}
use Rattle.cordyceps_stack.specs.declared.cores.steps.TransferStep.{TransferStep}
use Rattle.cordyceps_stack.specs.declared.cores.steps.TransferStep.TheVariants as step
use Rattle.cordyceps_stack.specs.declared.cores.steps.TransferAnswer.TheVariants as answer
use Rattle.cordyceps_stack.specs.declared.cores.stage.Attempt.{Attempt}
use Rattle.cordyceps_stack.specs.declared.cores.stage.Stage.{Stage}
use Rattle.cordyceps_stack.specs.declared.cores.stage.Stage.TheVariants.{Rest, Loaded, Set}
use Rattle.cordyceps_shared.specs.declared.room.Room.{Room}
use Rattle.cordyceps_stack.specs.History.{Event, Load, Push, held}
use Rattle.cordyceps_shared.specs.Rooms.{change, with_link}
use Rattle.cordyceps_stack.specs.Cores.Machine.{Machine, Outcome, with_element, least_free, after_step, is_rest, is_at_rest, is_ready, in_hand_at, events_of_answered}
use Rattle.cordyceps_stack.specs.Cores.CoreMeets.{CoreMeets, AnswerSays}
use Rattle.cordyceps_shared.proofs.ListWrites.{slice_get-set_same, slice_get-change_same}
use Rattle.cordyceps_shared.proofs.Choices.{both_from, some_from}
use Rattle.cordyceps_stack.proofs.Histories.{held_more}
use Rattle.cordyceps_stack.proofs.CoreTheory.AnyStep.{least_is_free, core_steps}

option_eq_refl : (x : Option ℕ) → option_eq nat_eq x x ≡ true
option_eq_refl None = refl
option_eq_refl (Some x) = eq-eqb x x refl

rest_from : (o : Option Stage) → is_rest o ≡ true → o ≡ Some Rest
rest_from (Some Rest) e = refl
rest_from o e = let no : ⊥ = cc in absurd no

module _ {E : Type 0} where
  pub at_rest : (m : Machine E) (p : ℕ) → is_at_rest m p ≡ true → slice_get m.parties p ≡ Some Rest
  at_rest m p e = rest_from (slice_get m.parties p) e

  -- the machine after each step of a push that a ready party runs alone
  pub record Pushing (m : Machine E) (p : ℕ) (e : E) : Type 0 where
    pub loaded : Machine E
    pub linked : Machine E
    pub pushed : Machine E
    pub loads : after_step m p (step.Load e) ≡ (loaded, Ok answer.Done)
    pub links : after_step loaded p step.SetNext ≡ (linked, Ok answer.Done)
    pub pushes : after_step linked p step.Exchange ≡ (pushed, Ok (answer.Pushed (is_none m.head)))
    pub hand : in_hand_at linked.rooms (slice_get linked.parties p) ≡ Some e

  pushing_at : (m : Machine E) (p r : ℕ) (e : E) (room : Room E) → slice_get m.parties p ≡ Some Rest
      → least_free p m.rooms ≡ Some r → slice_get m.rooms r ≡ Some room → Pushing m p e
  pushing_at m p r e room at free got =
      let a : Attempt = record { room = r; read = m.head } in
      let ps : List Stage = set m.parties p (Loaded a) in
      let qs : List Stage = set ps p (Set a) in
      let rooms : List (Room E) = change (with_element e) r m.rooms in
      let m1 : Machine E = record { head = m.head; rooms = rooms; parties = ps } in
      let m2 : Machine E = record { head = m.head; rooms = change (with_link m.head) r rooms; parties = qs } in
      let at1 : slice_get ps p ≡ Some (Loaded a) = slice_get-set_same m.parties p (Loaded a) Rest at in
      let at2 : slice_get qs p ≡ Some (Set a) = slice_get-set_same ps p (Set a) (Loaded a) at1 in
      let got2 : slice_get (change (with_link m.head) r rooms) r ≡ Some (with_link m.head (with_element e room)) = slice_get-change_same (with_link m.head) rooms r (with_element e room) (slice_get-change_same (with_element e) m.rooms r room got) in
      record {
        loaded = m1;
        linked = m2;
        pushed = record { head = Some r; rooms = m2.rooms; parties = set qs p Rest };
        loads = rw (at, free) refl;
        links = rw at1 refl;
        pushes = rw (at2, option_eq_refl m.head) refl;
        hand = rw (at2, got2) refl;
      }

  pub pushing : (m : Machine E) (p : ℕ) (e : E) → is_ready m p ≡ true → Pushing m p e
  pushing m p e ready =
      let two = both_from (is_at_rest m p) (is_some (least_free p m.rooms)) ready in
      let at : slice_get m.parties p ≡ Some Rest = at_rest m p two.0 in
      let free = some_from (least_free p m.rooms) two.1 in
      let room = least_is_free p m.rooms free.0 free.1 in
      pushing_at m p free.0 e room.room at free.1 room.at

  -- what one step keeps, at its outcome
  pub step_to : (h : List (Event ℕ E)) (m : Machine E) (p : ℕ) (s : TransferStep E) (out : Outcome E) → after_step m p s ≡ out
      → CoreMeets h m
      → CoreMeets (h ++ events_of_answered h p (in_hand_at m.rooms (slice_get m.parties p)) s out.1) out.0 × AnswerSays h p out.1
  step_to h m p s out e was = subst (λ (o : Outcome E). CoreMeets (h ++ events_of_answered h p (in_hand_at m.rooms (slice_get m.parties p)) s o.1) o.0 × AnswerSays h p o.1) e (core_steps h m p s was)

  pub push_meets : (h : List (Event ℕ E)) (m : Machine E) (p : ℕ) (e : E) → (run : Pushing m p e) → CoreMeets h m
      → CoreMeets ((h ++ Load p ∷ []) ++ Push p e ∷ []) run.pushed × ((is_none m.head ≡ true) ↔ (held h ≡ []))
  push_meets h m p e run was =
      let one = step_to h m p (step.Load e) (run.loaded, Ok answer.Done) run.loads was in
      let two = step_to (h ++ Load p ∷ []) run.loaded p step.SetNext (run.linked, Ok answer.Done) run.links one.0 in
      let there = subst (λ k. CoreMeets k run.linked) (append-nil (h ++ Load p ∷ [])) two.0 in
      let three = step_to (h ++ Load p ∷ []) run.linked p step.Exchange (run.pushed, Ok (answer.Pushed (is_none m.head))) run.pushes there in
      let last = rw run.hand at three.0 in
      (last, rw (held_more h (Load p)) at three.1)

  -- three steps of a ready party end the push
  pub push_ends : (m m1 m2 m3 : Machine E) (p : ℕ) (e : E) → (run : Pushing m p e) → m1 ≡ (after_step m p (step.Load e)).0
      → m2 ≡ (after_step m1 p step.SetNext).0 → m3 ≡ (after_step m2 p step.Exchange).0 → m3 ≡ run.pushed
  push_ends m m1 m2 m3 p e run a c d =
      let first : m1 ≡ run.loaded = a ∙ ap (λ (o : Outcome E). o.0) run.loads in
      let second : m2 ≡ run.linked = c ∙ (ap (λ (n : Machine E). (after_step n p step.SetNext).0) first ∙ ap (λ (o : Outcome E). o.0) run.links) in
      d ∙ (ap (λ (n : Machine E). (after_step n p step.Exchange).0) second ∙ ap (λ (o : Outcome E). o.0) run.pushes)

  pub push_alone : (m m1 m2 m3 : Machine E) (p : ℕ) (e : E) → is_ready m p ≡ true → m1 ≡ (after_step m p (step.Load e)).0
      → m2 ≡ (after_step m1 p step.SetNext).0 → m3 ≡ (after_step m2 p step.Exchange).0
      → (h : List (Event ℕ E)) → CoreMeets h m
      → CoreMeets ((h ++ Load p ∷ []) ++ Push p e ∷ []) m3 × ((is_none m.head ≡ true) ↔ (held h ≡ []))
  push_alone m m1 m2 m3 p e ready a c d h was =
      let run = pushing m p e ready in
      let law = push_meets h m p e run was in
      (subst (CoreMeets ((h ++ Load p ∷ []) ++ Push p e ∷ [])) (sym (push_ends m m1 m2 m3 p e run a c d)) law.0, law.1)
