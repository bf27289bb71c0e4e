-- What a core keeps from step to step.
use Rattle.std.proofs.Common.{◌≡◌, ℕ, ◌<◌, List, [], ◌++◌, set, true, false, length, refl, subst}
use Rattle.std.specs.Prelude.{Option, Some, None, slice_get, nat_eq, IsSome}
use Rattle.std.specs.Option.{option_eq}
use Rattle.std.proofs.lemmas.Option.{slice_get_within}
use Rattle.cordyceps_stack.specs.declared.cores.steps.TransferStep.{TransferStep}
use Rattle.cordyceps_stack.specs.declared.cores.steps.TransferStep.TheVariants as step
use Rattle.cordyceps_stack.specs.declared.cores.stage.Attempt.{Attempt}
use Rattle.cordyceps_stack.specs.declared.cores.stage.Stage.{Stage}
use Rattle.cordyceps_stack.specs.declared.cores.stage.Stage.TheVariants.{Rest, Loaded, Set, Walking}
use Rattle.cordyceps_shared.specs.declared.room.Room.{Room}
use Rattle.cordyceps_stack.specs.History.{Event}
use Rattle.cordyceps_shared.specs.Rooms.{change, with_link, as_free_room, element_in, next_in}
use Rattle.cordyceps_stack.specs.Cores.Machine.{Machine, with_element, stage_after_walk, least_free, acts, after_step_at, after_step}
use Rattle.cordyceps_stack.specs.Cores.CoreMeets.{CoreMeets, IsSound, step_events, AnswerSays}
use Rattle.cordyceps_stack.proofs.Histories.{legal_none}
use Rattle.cordyceps_stack.proofs.CoreTheory.AnyStep.{HasElement, core_steps, walking_at}

module _ {E : Type 0} where
  pub meets_new : CoreMeets {E = E} [] record { head = None; rooms = []; parties = [] }
  meets_new = record {
    legal = legal_none;
    own = λ r. None;
    chain = [];
    linked = refl;
    holds = refl;
    parties = λ p stage got. let no : ⊥ = cc in absurd no;
  }

  -- a step of a party whose stage is known
  pub core_acts : (h : List (Event ℕ E)) (m : Machine E) (p : ℕ) (s : TransferStep E) (stage : Stage)
      → slice_get m.parties p ≡ Some stage → CoreMeets h m
      → CoreMeets (h ++ step_events h m p s (acts m p s stage).1) (acts m p s stage).0 × AnswerSays h p (acts m p s stage).1
  core_acts h m p s stage at was = subst (λ (o : Option Stage). CoreMeets (h ++ step_events h m p s (after_step_at m p s o).1) (after_step_at m p s o).0 × AnswerSays h p (after_step_at m p s o).1) at (core_steps h m p s was)

  -- a core's machine after a step is sound
  pub sound_step : (m m' : Machine E) (p : ℕ) (s : TransferStep E) → IsSound m → (after_step m p s).0 ≡ m' → IsSound m'
  sound_step m m' p s was e = subst IsSound e (was.0 ++ step_events was.0 m p s (after_step m p s).1, (core_steps was.0 m p s was.1).0)

  -- where a push is under way there is a room with an element
  pub loaded_room : (m : Machine E) (p : ℕ) (a : Attempt) → IsSound m → slice_get m.parties p ≡ Some (Loaded a)
      → HasElement m.rooms a.room
  loaded_room m p a s at =
      let hand = (s.1.parties p (Loaded a) at).0 in
      record { element = hand.element; next = hand.next; at = hand.room }

  pub set_room : (m : Machine E) (p : ℕ) (a : Attempt) → IsSound m → slice_get m.parties p ≡ Some (Set a)
      → HasElement m.rooms a.room
  set_room m p a s at =
      let hand = (s.1.parties p (Set a) at).hand in
      record { element = hand.element; next = hand.next; at = hand.room }

  pub walking_room : (m : Machine E) (p r : ℕ) → IsSound m → slice_get m.parties p ≡ Some (Walking r)
      → HasElement m.rooms r
  walking_room m p r s at = walking_at s.0 m p r s.1 at

  pub sound_load : (m : Machine E) (p r : ℕ) (e : E) (rooms : List (Room E)) → IsSound m → slice_get m.parties p ≡ Some Rest
      → least_free p m.rooms ≡ Some r → rooms ≡ change (with_element e) r m.rooms
      → IsSound record { head = m.head; rooms = rooms; parties = set m.parties p (Loaded record { room = r; read = m.head }) }
  sound_load m p r e rooms s at free same = sound_step m _ p (step.Load e) s (rw (at, free, same) refl)

  pub sound_set_next : (m : Machine E) (p : ℕ) (a : Attempt) (rooms : List (Room E)) → IsSound m
      → slice_get m.parties p ≡ Some (Loaded a) → rooms ≡ change (with_link a.read) a.room m.rooms
      → IsSound record { head = m.head; rooms = rooms; parties = set m.parties p (Set a) }
  sound_set_next m p a rooms s at same = sound_step m _ p step.SetNext s (rw (at, same) refl)

  pub sound_push : (m : Machine E) (p : ℕ) (a : Attempt) → IsSound m → slice_get m.parties p ≡ Some (Set a)
      → option_eq nat_eq m.head a.read ≡ true
      → IsSound record { head = Some a.room; rooms = m.rooms; parties = set m.parties p Rest }
  sound_push m p a s at test = sound_step m _ p step.Exchange s (rw (at, test) refl)

  pub sound_fail : (m : Machine E) (p : ℕ) (a : Attempt) (rooms : List (Room E)) → IsSound m
      → slice_get m.parties p ≡ Some (Set a) → option_eq nat_eq m.head a.read ≡ false → rooms ≡ change (as_free_room p) a.room m.rooms
      → IsSound record { head = m.head; rooms = rooms; parties = set m.parties p Rest }
  sound_fail m p a rooms s at test same = let there = set_room m p a s at in sound_step m _ p step.Exchange s (rw (at, test, there.at, same) refl)

  pub sound_take : (m : Machine E) (p r : ℕ) → IsSound m → slice_get m.parties p ≡ Some Rest → m.head ≡ Some r
      → IsSound record { head = None; rooms = m.rooms; parties = set m.parties p (Walking r) }
  sound_take m p r s at top = sound_step m _ p step.Take s (rw (at, top) refl)

  pub sound_walk : (m : Machine E) (p r : ℕ) (next : Option ℕ) (rooms : List (Room E)) → IsSound m
      → slice_get m.parties p ≡ Some (Walking r) → next ≡ next_in (slice_get m.rooms r) → rooms ≡ change (as_free_room p) r m.rooms
      → IsSound record { head = m.head; rooms = rooms; parties = set m.parties p (stage_after_walk next) }
  sound_walk m p r next rooms s at link same = let there = walking_room m p r s at in sound_step m _ p step.Walk s (rw (at, there.at, link, there.at, same) refl)

  pub element_at : (m : Machine E) (r : ℕ) → HasElement m.rooms r
      → (r < length m.rooms) × IsSome (element_in (slice_get m.rooms r))
  element_at m r there = (slice_get_within m.rooms r _ there.at, rw there.at refl)
