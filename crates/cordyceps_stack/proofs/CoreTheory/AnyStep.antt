-- A step of any kind, from a machine that meets a history.
use Rattle.std.proofs.Common.{◌≡◌, ◌≢◌, ℕ, List, [], ◌∷◌, ◌++◌, reverse, refl, ap, sym, ◌∙◌, subst, Bool, true, false, get_or}
use Rattle.std.specs.Prelude.{Option, Some, None, slice_get, nat_eq, is_none, ◌↔◌}
use Rattle.std.specs.Option.{option_eq}
use Rattle.std.proofs.lemmas.List.{append-nil}
use Rattle.std.proofs.lemmas.List.Quantifiers.{position-Some}
use Rattle.std.proofs.lemmas.Option.{slice_get-get_or}
use Rattle.cordyceps_stack.specs.declared.cores.steps.TransferStep.{TransferStep}
use Rattle.cordyceps_stack.specs.declared.cores.steps.TransferStep.TheVariants as step
use Rattle.cordyceps_stack.specs.declared.cores.stage.Attempt.{Attempt}
use Rattle.cordyceps_stack.specs.declared.cores.stage.Stage.{Stage}
use Rattle.cordyceps_stack.specs.declared.cores.stage.Stage.TheVariants.{Rest, Loaded, Set, Walking}
use Rattle.cordyceps_shared.specs.declared.room.Room.{Room}
use Rattle.cordyceps_stack.specs.History.{Event, held}
use Rattle.cordyceps_shared.specs.Rooms.{element_in, next_in, is_free_for}
use Rattle.cordyceps_stack.specs.Cores.Machine.{Machine, Outcome, least_free, load, exchange, take, walk, after_step_at, after_step, in_hand_at, events_of_answered}
use Rattle.cordyceps_stack.specs.Cores.Stages.{room_in_use, LeadsThrough}
use Rattle.cordyceps_stack.specs.Cores.CoreMeets.{CoreMeets, AnswerSays, step_events}
use Rattle.cordyceps_shared.proofs.Choices.{option_same, option_differ}
use Rattle.cordyceps_stack.proofs.Histories.{none_from_reversed}
use Rattle.cordyceps_stack.proofs.CoreTheory.Chains.{LeadsThrough-none, LeadsThrough-some}
use Rattle.cordyceps_stack.proofs.CoreTheory.EachStep.{keeps_load, keeps_set_next, keeps_push, keeps_fail, keeps_take, keeps_nothing, keeps_walk}

module _ {E : Type 0} where
  -- the room r is there, and is p's free one
  pub record IsFree (p : ℕ) (rooms : List (Room E)) (r : ℕ) : Type 0 where
    pub room : Room E
    pub at : slice_get rooms r ≡ Some room
    pub owner : room.owner ≡ Some p

  -- the least free room is a free one
  pub least_is_free : (p : ℕ) (rooms : List (Room E)) (r : ℕ) → least_free p rooms ≡ Some r → IsFree p rooms r
  least_is_free p [] r e = let no : ⊥ = cc in absurd no
  least_is_free p (x ∷ xs) r e =
      let found = position-Some (is_free_for p) (x ∷ xs) r x e in
      record {
        room = get_or (x ∷ xs) r x;
        at = slice_get-get_or (x ∷ xs) r x found.0;
        owner = option_same (get_or (x ∷ xs) r x).owner (Some p) found.1;
      }

  -- there is an element in the room r
  pub record HasElement (rooms : List (Room E)) (r : ℕ) : Type 0 where
    pub element : E
    pub next : Option ℕ
    pub at : slice_get rooms r ≡ Some (room_in_use element next)

  pub first_of_rest : (rooms : List (Room E)) (own : ℕ → Option ℕ) (w : Option ℕ) (r : ℕ) (rest : List (ℕ × E))
      → LeadsThrough rooms own w (Some r) rest → HasElement rooms r
  first_of_rest rooms own w r [] l = let no : ⊥ = cc in absurd no
  first_of_rest rooms own w r (x ∷ xs) l =
      let start : r ≡ x.0 = let e = l.start_is in cc in record { element = x.1; next = l.next; at = ap (slice_get rooms) start ∙ l.room }

  pub none_held : (h : List (Event ℕ E)) (m : Machine E) → CoreMeets h m → m.head ≡ None → held h ≡ []
  none_held h m was top =
      none_from_reversed (held h) (sym was.holds ∙ LeadsThrough-none m.rooms was.own None was.chain (subst (λ start. LeadsThrough m.rooms was.own None start was.chain) top was.linked))

  some_held : (h : List (Event ℕ E)) (m : Machine E) (r : ℕ) → CoreMeets h m → m.head ≡ Some r → held h ≢ []
  some_held h m r was top e =
      LeadsThrough-some m.rooms was.own None r was.chain (subst (λ start. LeadsThrough m.rooms was.own None start was.chain) top was.linked) (was.holds ∙ ap reverse e)

  head_tells : (h : List (Event ℕ E)) (m : Machine E) (top : Option ℕ) → CoreMeets h m → m.head ≡ top
      → (is_none top ≡ true) ↔ (held h ≡ [])
  head_tells h m None was e = (λ _. none_held h m was e, λ _. refl)
  head_tells h m (Some r) was e = (λ n. let no : ⊥ = cc in absurd no, λ n. absurd (some_held h m r was e n))

  -- the step's outcome is the machine's, and the machine meets the history with the step's events
  abbrev pub Goes_on : List (Event ℕ E) → ℕ → Option E → TransferStep E → Outcome E → Type 0
  Goes_on h p hand s out = CoreMeets (h ++ events_of_answered h p hand s out.1) out.0 × AnswerSays h p out.1

  unchanged : (h : List (Event ℕ E)) (m : Machine E) → CoreMeets h m → CoreMeets (h ++ []) m
  unchanged h m was = subst (λ k. CoreMeets k m) (sym (append-nil h)) was

  on_load : (h : List (Event ℕ E)) (m : Machine E) (p : ℕ) (e : E) (o : Option ℕ) → CoreMeets h m
      → slice_get m.parties p ≡ Some Rest → least_free p m.rooms ≡ o
      → Goes_on h p None (step.Load e) (load m p e o)
  on_load h m p e None was at free = (unchanged h m was, tt)
  on_load h m p e (Some r) was at free =
      let room = least_is_free p m.rooms r free in
      (keeps_load h m p r p e room.room was at room.at room.owner, tt)

  on_exchange : (h : List (Event ℕ E)) (m : Machine E) (p : ℕ) (a : Attempt) (b : Bool) → CoreMeets h m
      → slice_get m.parties p ≡ Some (Set a) → option_eq nat_eq m.head a.read ≡ b
      → Goes_on h p (element_in (slice_get m.rooms a.room)) step.Exchange (exchange m p a b)
  on_exchange h m p a true was at test =
      let hand = (was.parties p (Set a) at).hand in
      let same = option_same m.head a.read test in
      (rw hand.room (keeps_push h m p a hand.element hand.next was at same hand.room), head_tells h m a.read was same)
  on_exchange h m p a false was at test =
      let there = was.parties p (Set a) at in
      let hand = there.hand in
      let read = there.read in
      rw hand.room (unchanged h _ (keeps_fail h m p a was at), record { since = read.since; loaded = read.loaded; moved = read.moved (option_differ m.head a.read test) })

  on_take : (h : List (Event ℕ E)) (m : Machine E) (p : ℕ) (top : Option ℕ) → CoreMeets h m
      → slice_get m.parties p ≡ Some Rest → m.head ≡ top → Goes_on h p None step.Take (take m p top)
  on_take h m p None was at top = (keeps_nothing h m p was at top, none_held h m was top)
  on_take h m p (Some r) was at top = (keeps_take h m p r was at top, some_held h m r was top)

  -- where a party walks there is a room with an element
  pub walking_at : (h : List (Event ℕ E)) (m : Machine E) (p r : ℕ) → CoreMeets h m
      → slice_get m.parties p ≡ Some (Walking r) → HasElement m.rooms r
  walking_at h m p r was at = let w = was.parties p (Walking r) at in first_of_rest m.rooms was.own (Some p) r w.rest w.links

  walked_on : (h : List (Event ℕ E)) (m : Machine E) (p r : ℕ) (e : E) (next : Option ℕ) → CoreMeets h m
      → slice_get m.parties p ≡ Some (Walking r) → slice_get m.rooms r ≡ Some (room_in_use e next)
      → Goes_on h p None step.Walk (walk m p r next (Some e))
  walked_on h m p r e None was at got = (unchanged h _ (keeps_walk h m p r e None was at got), tt)
  walked_on h m p r e (Some s) was at got = (unchanged h _ (keeps_walk h m p r e (Some s) was at got), tt)

  on_walk : (h : List (Event ℕ E)) (m : Machine E) (p r : ℕ) → CoreMeets h m
      → slice_get m.parties p ≡ Some (Walking r)
      → Goes_on h p None step.Walk (walk m p r (next_in (slice_get m.rooms r)) (element_in (slice_get m.rooms r)))
  on_walk h m p r was at =
      let there = walking_at h m p r was at in
      rw there.at (walked_on h m p r there.element there.next was at there.at)

  goes_at : (h : List (Event ℕ E)) (m : Machine E) (p : ℕ) (s : TransferStep E) (o : Option Stage)
      → CoreMeets h m → slice_get m.parties p ≡ o → Goes_on h p (in_hand_at m.rooms o) s (after_step_at m p s o)
  goes_at h m p (step.Load e) (Some Rest) was at = on_load h m p e (least_free p m.rooms) was at refl
  goes_at h m p step.SetNext (Some (Loaded a)) was at = (unchanged h _ (keeps_set_next h m p a was at), tt)
  goes_at h m p step.Exchange (Some (Set a)) was at = on_exchange h m p a (option_eq nat_eq m.head a.read) was at refl
  goes_at h m p step.Take (Some Rest) was at = on_take h m p m.head was at refl
  goes_at h m p step.Walk (Some (Walking r)) was at = on_walk h m p r was at
  goes_at h m p (step.Load e) None was at = (unchanged h m was, tt)
  goes_at h m p s o was at = (unchanged h m was, tt)

  pub core_steps : (h : List (Event ℕ E)) (m : Machine E) (p : ℕ) (s : TransferStep E) → CoreMeets h m
      → CoreMeets (h ++ step_events h m p s (after_step m p s).1) (after_step m p s).0 × AnswerSays h p (after_step m p s).1
  core_steps h m p s was = goes_at h m p s (slice_get m.parties p) was refl
