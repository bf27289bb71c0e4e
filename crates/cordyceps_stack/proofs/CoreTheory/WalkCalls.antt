-- What the walks hand out where a core grows, and where one party runs a whole call alone.
use Rattle.std.proofs.Common.{◌≡◌, ◌≢◌, ℕ, zero, suc, List, [], ◌∷◌, ◌++◌, replicate, refl, ap, sym, ◌∙◌, subst, Bool, true, false, inl, inr, ◌⊎◌}
use Rattle.std.specs.Prelude.{Option, Some, None, slice_get, Result, Ok, Err, OnOk, OnErr, ◌==◌, if◌then◌else◌, is_none}
use Rattle.std.proofs.lemmas.List.{append-nil}
use Rattle.std.proofs.lemmas.Bool.{eq-eqb, ne_eqb, cases_eq}
use Rattle.cordyceps_base.specs.Runs.{after}
use Rattle.cordyceps_shared.specs.declared.room.Room.{Room}
use Rattle.cordyceps_stack.specs.declared.cores.stage.Stage.{Stage}
use Rattle.cordyceps_stack.specs.declared.cores.stage.Stage.TheVariants.{Rest, Loaded, Set, Walking}
use Rattle.cordyceps_stack.specs.declared.cores.steps.TransferAnswer.TheVariants as answer
use Rattle.cordyceps_stack.specs.declared.cores.steps.TransferStep.{TransferStep}
use Rattle.cordyceps_stack.specs.declared.cores.steps.TransferStep.TheVariants as step
use Rattle.cordyceps_stack.specs.History.{Event, Load, Push, Taken}
use Rattle.cordyceps_stack.specs.Cores.Machine.{Machine, Outcome, with_party, acts, after_step_at, after_step, is_ready, in_hand_at, events_of_answered}
use Rattle.cordyceps_stack.specs.Cores.CoreMeets.{CoreMeets, step_events, core_step}
use Rattle.cordyceps_stack.specs.Cores.Alone.{take_steps}
use Rattle.cordyceps_stack.specs.Cores.Walks.{batches, LeadsToElements, IsLeftAt, IsLeft, handed_elements, only, HandsOut, HandsOn}
use Rattle.cordyceps_stack.proofs.CoreTheory.AlonePush.{Pushing, pushing, push_ends, step_to}
use Rattle.cordyceps_stack.proofs.CoreTheory.CoreGrows.{slice_get-push, slice_get-pushed}
use Rattle.cordyceps_stack.proofs.CoreTheory.AnyStep.{core_steps}
use Rattle.cordyceps_stack.proofs.CoreTheory.WalkSteps.{MovesOn, batches_mine, hands_from, hands_on, left_kept}

module _ {E : Type 0} where
  -- where the history stays, and what is left too
  hands_still : (h : List (Event ℕ E)) (old new : Machine E)
      → ((p : ℕ) (left : List E) → IsLeft old p left → IsLeft new p left) → HandsOn h old h new (λ p. [])
  hands_still h old new kept p given out =
      record { left = out.left; is_left = kept p out.left out.is_left; all = ap (λ es. es ++ out.left) (append-nil given) ∙ out.all }

  hands_same : (h : List (Event ℕ E)) (m : Machine E) → HandsOn h m h m (λ p. [])
  hands_same h m = hands_still h m m (λ p left is. is)

  left_party : (rooms : List (Room E)) (parties : List Stage) (p : ℕ) (o o' : Option Stage) (left : List E)
      → slice_get parties p ≡ o → slice_get (parties ++ Rest ∷ []) p ≡ o' → IsLeftAt rooms o left → IsLeftAt rooms o' left
  left_party rooms parties p (Some y) o' left was at is =
      subst (λ (x : Option Stage). IsLeftAt rooms x left) (sym (slice_get-pushed parties Rest y p was) ∙ at) is
  left_party rooms parties p None None left was at is = is
  left_party rooms parties p None (Some stage) left was at is = elim (slice_get-push parties Rest stage p at) [
    | inl e ↦ let no : ⊥ = cc in absurd no
    | inr e ↦ subst (λ (x : Stage). IsLeftAt rooms (Some x) left) (sym e) is
  ]

  hands_party : (h : List (Event ℕ E)) (m : Machine E) → HandsOn h m h (with_party m) (λ p. [])
  hands_party h m = hands_still h m (with_party m) (λ p left is. left_party m.rooms m.parties p (slice_get m.parties p) (slice_get (m.parties ++ Rest ∷ []) p) left refl refl is)

  -- whether or not there was memory for a party
  pub hands_party_tried : (h : List (Event ℕ E)) (m : Machine E) (parties : List Stage) (b : Bool)
      → parties ≡ (if b then m.parties ++ Rest ∷ [] else m.parties)
      → HandsOn h m h record { head = m.head; rooms = m.rooms; parties = parties } (λ p. [])
  hands_party_tried h m parties true e = rw e (hands_party h m)
  hands_party_tried h m parties false e = rw e (hands_same h m)

  leads_pushed : (rooms : List (Room E)) (room : Room E) (start : Option ℕ) (es : List E) → LeadsToElements rooms start es
      → LeadsToElements (rooms ++ room ∷ []) start es
  leads_pushed rooms room start [] l = l
  leads_pushed rooms room start (e ∷ es) l = record {
    room = l.room;
    next = l.next;
    start_is = l.start_is;
    reads = slice_get-pushed rooms room _ l.room l.reads;
    rest = leads_pushed rooms room l.next es l.rest;
  }

  left_room : (rooms : List (Room E)) (room : Room E) (o : Option Stage) (left : List E) → IsLeftAt rooms o left
      → IsLeftAt (rooms ++ room ∷ []) o left
  left_room rooms room (Some (Walking r)) left is = leads_pushed rooms room (Some r) left is
  left_room rooms room None left is = is
  left_room rooms room (Some Rest) left is = is
  left_room rooms room (Some (Loaded a)) left is = is
  left_room rooms room (Some (Set a)) left is = is

  -- whether or not there was memory for a room
  pub hands_room_tried : {T F : Type 0} (h : List (Event ℕ E)) (m : Machine E) (room : Room E) (rooms : List (Room E)) (r : Result T F) → OnOk r (rooms ≡ m.rooms ++ room ∷ []) → OnErr r (rooms ≡ m.rooms)
      → HandsOn h m h record { head = m.head; rooms = rooms; parties = m.parties } (λ p. [])
  hands_room_tried h m room rooms (Ok x) ok err = rw ok (hands_still h m record { head = m.head; rooms = m.rooms ++ room ∷ []; parties = m.parties } (λ p left is. left_room m.rooms room (slice_get m.parties p) left is))
  hands_room_tried h m room rooms (Err x) ok err = rw err (hands_same h m)

  only_none : (q p : ℕ) → only {E = E} q [] p ≡ []
  only_none q p = elim (cases_eq q p) [
    | inl e ↦ ap (λ (t : Bool). let es : List E = if t then [] else [] in es) (ap (λ n. n == p) e ∙ eq-eqb p p refl)
    | inr ne ↦ ap (λ (t : Bool). let es : List E = if t then [] else [] in es) (ne_eqb q p ne)
  ]

  -- what a step that hands out nothing does, at its outcome
  hands_to : (h : List (Event ℕ E)) (m : Machine E) (q : ℕ) (s : TransferStep E) (out : Outcome E) → after_step m q s ≡ out
      → CoreMeets h m → handed_elements out.1 ≡ []
      → HandsOn h m (h ++ events_of_answered h q (in_hand_at m.rooms (slice_get m.parties q)) s out.1) out.0 (λ p. [])
  hands_to h m q s out e was none p given before =
      let h' = h ++ events_of_answered h q (in_hand_at m.rooms (slice_get m.parties q)) s out.1 in
      let on = subst (λ (o : Outcome E). HandsOn h m (h ++ events_of_answered h q (in_hand_at m.rooms (slice_get m.parties q)) s o.1) o.0 (only q (handed_elements o.1))) e (hands_on h m q s was) in
      subst (λ (es : List E). HandsOut h' out.0 p (given ++ es)) (ap (λ (es : List E). only q es p) none ∙ only_none q p) (on p given before)

  hands_then : (h h' h'' : List (Event ℕ E)) (m m' m'' : Machine E) → HandsOn h m h' m' (λ p. [])
      → HandsOn h' m' h'' m'' (λ p. []) → HandsOn h m h'' m'' (λ p. [])
  hands_then h h' h'' m m' m'' first second p given before =
      second p given (subst (HandsOut h' m' p) (append-nil given) (first p given before))

  push_hands : (h : List (Event ℕ E)) (m : Machine E) (p : ℕ) (e : E) → (run : Pushing m p e) → CoreMeets h m
      → HandsOn h m ((h ++ Load p ∷ []) ++ Push p e ∷ []) run.pushed (λ q. [])
  push_hands h m p e run was =
      let k = h ++ Load p ∷ [] in
      let one = step_to h m p (step.Load e) (run.loaded, Ok answer.Done) run.loads was in
      let first = hands_to h m p (step.Load e) (run.loaded, Ok answer.Done) run.loads was refl in
      let two = step_to k run.loaded p step.SetNext (run.linked, Ok answer.Done) run.links one.0 in
      let second = hands_to k run.loaded p step.SetNext (run.linked, Ok answer.Done) run.links one.0 refl in
      let there = subst (λ k'. CoreMeets k' run.linked) (append-nil k) two.0 in
      let on = subst (λ k'. HandsOn k run.loaded k' run.linked (λ q. [])) (append-nil k) second in
      let third = rw run.hand at (hands_to k run.linked p step.Exchange (run.pushed, Ok (answer.Pushed (is_none m.head))) run.pushes there refl) in
      hands_then h k (k ++ Push p e ∷ []) m run.loaded run.pushed first (hands_then k k (k ++ Push p e ∷ []) run.loaded run.linked run.pushed on third)

  pub push_hands_alone : (m m1 m2 m3 : Machine E) (p : ℕ) (e : E) → is_ready m p ≡ true → m1 ≡ (after_step m p (step.Load e)).0
      → m2 ≡ (after_step m1 p step.SetNext).0 → m3 ≡ (after_step m2 p step.Exchange).0
      → (h : List (Event ℕ E)) → CoreMeets h m → HandsOn h m ((h ++ Load p ∷ []) ++ Push p e ∷ []) m3 (λ q. [])
  push_hands_alone m m1 m2 m3 p e ready a c d h was =
      let run = pushing m p e ready in
      subst (λ (n : Machine E). HandsOn h m ((h ++ Load p ∷ []) ++ Push p e ∷ []) n (λ q. [])) (sym (push_ends m m1 m2 m3 p e run a c d)) (push_hands h m p e run was)

  -- a step, where it is known at which stage the party is
  pub hands_acts : (h : List (Event ℕ E)) (m : Machine E) (q : ℕ) (s : TransferStep E) (stage : Stage)
      → slice_get m.parties q ≡ Some stage → CoreMeets h m
      → HandsOn h m (h ++ step_events h m q s (acts m q s stage).1) (acts m q s stage).0 (only q (handed_elements (acts m q s stage).1))
  hands_acts h m q s stage at was =
      subst (λ (o : Option Stage). HandsOn h m (h ++ step_events h m q s (after_step_at m q s o).1) (after_step_at m q s o).0 (only q (handed_elements (after_step_at m q s o).1))) at (hands_on h m q s was)

  kept_walks : (n : ℕ) (h : List (Event ℕ E)) (m : Machine E) (p q : ℕ) (left : List E) → CoreMeets h m → q ≢ p
      → IsLeft m q left → IsLeft (after core_step m (replicate n (p, step.Walk))) q left
  kept_walks zero h m p q left was ne is = is
  kept_walks (suc n) h m p q left was ne is =
      kept_walks n (h ++ step_events h m p step.Walk (after_step m p step.Walk).1) (after_step m p step.Walk).0 p q left (core_steps h m p step.Walk was).0 ne (left_kept h m q p step.Walk left was ne is)

  kept_take : (n : ℕ) (h : List (Event ℕ E)) (m : Machine E) (p q : ℕ) (left : List E) → CoreMeets h m → q ≢ p
      → IsLeft m q left → IsLeft (after core_step m (take_steps p n)) q left
  kept_take n h m p q left was ne is =
      kept_walks n (h ++ step_events h m p step.Take (after_step m p step.Take).1) (after_step m p step.Take).0 p q left (core_steps h m p step.Take was).0 ne (left_kept h m q p step.Take left was ne is)

  take_moves : (h : List (Event ℕ E)) (old new : Machine E) (p n q : ℕ) (batch left : List E) → CoreMeets h old
      → slice_get old.parties p ≡ Some Rest → slice_get new.parties p ≡ Some Rest → new ≡ after core_step old (take_steps p n)
      → IsLeft old q left → (p ≡ q) ⊎ (p ≢ q)
      → MovesOn q left (Taken p batch ∷ []) new (only p batch q)
  take_moves h old new p n q batch left was from to ran is (inl same) =
      let none : left ≡ [] = subst (λ (o : Option Stage). IsLeftAt old.rooms o left) from (subst (λ s. IsLeft old s left) (sym same) is) in
      subst (λ s. MovesOn s left (Taken p batch ∷ []) new (only p batch s)) same
      (subst (λ (t : Bool). MovesOn p left (Taken p batch ∷ []) new (if t then batch else [])) (sym (eq-eqb p p refl)) record {
        rest = [];
        is_left = subst (λ (o : Option Stage). IsLeftAt new.rooms o []) (sym to) refl;
        all = ap (λ es. es ++ batches p (Taken p batch ∷ [])) none ∙ (batches_mine p batch ∙ sym (append-nil batch));
      })
  take_moves h old new p n q batch left was from to ran is (inr ne) =
      let other : only p batch q ≡ [] = ap (λ (t : Bool). if t then batch else []) (ne_eqb p q ne) in
      subst (λ (es : List E). MovesOn q left (Taken p batch ∷ []) new es) (sym other) record {
        rest = left;
        is_left = subst (λ (m : Machine E). IsLeft m q left) (sym ran) (kept_take n h old p q left was (λ e. ne (sym e)) is);
        all = ap (λ (es : List E). left ++ (es ++ [])) other ∙ append-nil left;
      }

  pub take_hands : (h : List (Event ℕ E)) (old new : Machine E) (p n : ℕ) (batch : List E) → CoreMeets h old
      → slice_get old.parties p ≡ Some Rest → slice_get new.parties p ≡ Some Rest → new ≡ after core_step old (take_steps p n)
      → HandsOn h old (h ++ Taken p batch ∷ []) new (only p batch)
  take_hands h old new p n batch was from to ran q given out =
      hands_from h (Taken p batch ∷ []) new q given (only p batch q) out.left out.all (take_moves h old new p n q batch out.left was from to ran out.is_left (cases_eq p q))
