-- What a party's walks hand out, and then what it has yet to, are its batches.
use Rattle.std.proofs.Common.{◌≡◌, ◌≢◌, ℕ, List, [], ◌∷◌, ◌++◌, reverse, set, refl, ap, sym, ◌∙◌, subst, Bool, true, false, append_assoc, inl, inr, ◌⊎◌}
use Rattle.std.specs.Prelude.{Option, Some, None, slice_get, nat_eq, Ok, Err, ◌==◌, if◌then◌else◌}
use Rattle.std.specs.Option.{option_eq}
use Rattle.std.proofs.lemmas.List.{append-nil}
use Rattle.std.proofs.lemmas.Bool.{eq-eqb, ne_eqb, cases_eq}
use Rattle.cordyceps_shared.specs.declared.room.Room.{Room}
use Rattle.cordyceps_stack.specs.declared.cores.stage.Attempt.{Attempt}
use Rattle.cordyceps_stack.specs.declared.cores.stage.Stage.{Stage}
use Rattle.cordyceps_stack.specs.declared.cores.stage.Stage.TheVariants.{Rest, Loaded, Set, Walking}
use Rattle.cordyceps_stack.specs.declared.cores.steps.TransferAnswer.{TransferAnswer}
use Rattle.cordyceps_stack.specs.declared.cores.steps.TransferAnswer.TheVariants as answer
use Rattle.cordyceps_stack.specs.declared.cores.steps.TransferStep.{TransferStep}
use Rattle.cordyceps_stack.specs.declared.cores.steps.TransferStep.TheVariants as step
use Rattle.cordyceps_stack.specs.History.{Event, Load, Push, Taken, held}
use Rattle.cordyceps_shared.specs.Rooms.{change, with_link, as_free_room, element_in, next_in}
use Rattle.cordyceps_stack.specs.Cores.Machine.{Machine, Answered, with_element, stage_after_walk, walk_answer, least_free, load, exchange, fails, take, walk, after_step_at, after_step, in_hand_at, push_event, events_of_answer, events_of_answered}
use Rattle.cordyceps_stack.specs.Cores.Stages.{room_in_use, LeadsThrough, room_elements}
use Rattle.cordyceps_base.specs.Runs.{after, replies_to, history_after}
use Rattle.cordyceps_stack.specs.Cores.CoreMeets.{CoreMeets, step_events, core_step, core_events}
use Rattle.cordyceps_stack.specs.Cores.Walks.{batches, LeadsToElements, IsLeftAt, IsLeft, handed_elements, handed_elements_of, only, HandsOut, HandsOn}
use Rattle.cordyceps_shared.proofs.ListWrites.{slice_get-set_same, slice_get-set_other}
use Rattle.cordyceps_stack.proofs.CoreTheory.Chains.{Keeps, Keeps-free, Keeps-change, LeadsThrough-passed, LeadsThrough-change}
use Rattle.cordyceps_stack.proofs.CoreTheory.EachStep.{not_mine, walks_on}
use Rattle.cordyceps_stack.proofs.CoreTheory.AnyStep.{least_is_free, walking_at, core_steps}

module _ {E : Type 0} where
  pub batches-append : (p : ℕ) (h k : List (Event ℕ E)) → batches p (h ++ k) ≡ batches p h ++ batches p k
  batches-append p [] k = refl
  batches-append p (Load q ∷ h) k = batches-append p h k
  batches-append p (Push q e ∷ h) k = batches-append p h k
  batches-append p (Taken q b ∷ h) k = ap (λ es. (if q == p then b else []) ++ es) (batches-append p h k) ∙ sym (append_assoc (if q == p then b else []) (batches p h) (batches p k))

  pub batches_mine : (p : ℕ) (b : List E) → batches p (Taken p b ∷ []) ≡ b
  batches_mine p b = ap (λ t. (if t then b else []) ++ []) (eq-eqb p p refl) ∙ append-nil b

  batches_push : (p q : ℕ) (o : Option E) → batches p (push_event q o) ≡ []
  batches_push p q None = refl
  batches_push p q (Some e) = refl

  batches_other : (p q : ℕ) (h : List (Event ℕ E)) (hand : Option E) (s : TransferStep E) (a : TransferAnswer E) → q ≢ p
      → batches p (events_of_answer h q hand s a) ≡ []
  batches_other p q h hand (step.Load e) a ne = refl
  batches_other p q h hand s (answer.Pushed b) ne = batches_push p q hand
  batches_other p q h hand s answer.Taken ne = ap (λ t. (if t then reverse (held h) else []) ++ []) (ne_eqb q p ne)
  batches_other p q h hand s answer.Nothing ne = ap (λ (t : Bool). let es : List E = (if t then [] else []) ++ [] in es) (ne_eqb q p ne)
  batches_other p q h hand s a ne = refl

  events_other : (p q : ℕ) (h : List (Event ℕ E)) (hand : Option E) (s : TransferStep E) (a : Answered E) → q ≢ p
      → batches p (events_of_answered h q hand s a) ≡ []
  events_other p q h hand s (Ok a) ne = batches_other p q h hand s a ne
  events_other p q h hand s (Err e) ne = refl

  leads_from_linked : (rooms : List (Room E)) (own : ℕ → Option ℕ) (w start : Option ℕ) (xs : List (ℕ × E))
      → LeadsThrough rooms own w start xs → LeadsToElements rooms start (room_elements xs)
  leads_from_linked rooms own w start [] l = l
  leads_from_linked rooms own w start (x ∷ xs) l =
      record { room = x.0; next = l.next; start_is = l.start_is; reads = l.room; rest = leads_from_linked rooms own w l.next xs l.rest }

  -- links lead in one way
  leads_same : (rooms : List (Room E)) (start : Option ℕ) (es fs : List E) → LeadsToElements rooms start es → LeadsToElements rooms start fs → es ≡ fs
  leads_same rooms start [] [] l k = refl
  leads_same rooms start [] (f ∷ fs) l k = let a = k.start_is in let no : ⊥ = cc in absurd no
  leads_same rooms start (e ∷ es) [] l k = let a = l.start_is in let no : ⊥ = cc in absurd no
  leads_same rooms start (e ∷ es) (f ∷ fs) l k =
      let both : Some l.room ≡ Some k.room = sym l.start_is ∙ k.start_is in
      let room : l.room ≡ k.room = cc in
      let reads : Some (room_in_use e l.next) ≡ Some (room_in_use f k.next) = sym l.reads ∙ (ap (slice_get rooms) room ∙ k.reads) in
      let same : room_in_use e l.next ≡ room_in_use f k.next = cc in
      let next : l.next ≡ k.next = ap (λ (y : Room E). y.next) same in
      let some_element : Some e ≡ Some f = ap (λ (y : Room E). y.element) same in
      let element : e ≡ f = cc in
      let more : es ≡ fs = leads_same rooms k.next es fs (subst (λ top. LeadsToElements rooms top es) next l.rest) k.rest in
      cc

  -- p hands out these elements in a step that adds these events
  pub record MovesOn (p : ℕ) (left : List E) (ev : List (Event ℕ E)) (m' : Machine E) (more : List E) : Type 0 where
    pub rest : List E
    pub is_left : IsLeft m' p rest
    pub all : left ++ batches p ev ≡ more ++ rest

  pub hands_from : (h ev : List (Event ℕ E)) (m' : Machine E) (p : ℕ) (given more left : List E) → given ++ left ≡ batches p h
      → MovesOn p left ev m' more → HandsOut (h ++ ev) m' p (given ++ more)
  hands_from h ev m' p given more left all moves = record {
    left = moves.rest;
    is_left = moves.is_left;
    all = append_assoc given more moves.rest
        ∙ (ap (λ es. given ++ es) (sym moves.all) ∙ (sym (append_assoc given left (batches p ev)) ∙ (ap (λ es. es ++ batches p ev) all ∙ sym (batches-append p h ev))));
  }

  stays : (m : Machine E) (p : ℕ) (left : List E) → IsLeft m p left → MovesOn p left [] m []
  stays m p left is = record { rest = left; is_left = is; all = append-nil left }

  -- the step of another leaves p where it is, and its rooms
  record Aside (own : ℕ → Option ℕ) (m m' : Machine E) (p : ℕ) : Type 0 where
    stage : slice_get m'.parties p ≡ slice_get m.parties p
    rooms : Keeps m.rooms own m'.rooms own (Some p)

  aside_still : (own : ℕ → Option ℕ) (m : Machine E) (p : ℕ) → Aside own m m p
  aside_still own m p = record { stage = refl; rooms = λ r e next got mine. (got, mine) }

  aside_load : (h : List (Event ℕ E)) (m : Machine E) (p q : ℕ) (e : E) (o : Option ℕ) → (was : CoreMeets h m) → p ≢ q
      → least_free q m.rooms ≡ o → Aside was.own m (load m q e o).0 p
  aside_load h m p q e None was ne free = aside_still was.own m p
  aside_load h m p q e (Some r) was ne free =
      let room = least_is_free q m.rooms r free in
      record { stage = slice_get-set_other m.parties q p _ ne; rooms = Keeps-free (with_element e) m.rooms was.own r room.room (Some p) q room.at room.owner }

  aside_exchange : (h : List (Event ℕ E)) (m : Machine E) (p q : ℕ) (a : Attempt) (b : Bool) → (was : CoreMeets h m) → p ≢ q
      → slice_get m.parties q ≡ Some (Set a) → Aside was.own m (exchange m q a b).0 p
  aside_exchange h m p q a true was ne at = record { stage = slice_get-set_other m.parties q p _ ne; rooms = λ r e next got mine. (got, mine) }
  aside_exchange h m p q a false was ne at =
      let hand = (was.parties q (Set a) at).hand in
      rw hand.room (record { stage = slice_get-set_other m.parties q p _ ne; rooms = Keeps-change (as_free_room q) m.rooms was.own a.room (Some p) (not_mine was.own a.room q p hand.mine ne) })

  aside_take : (h : List (Event ℕ E)) (m : Machine E) (p q : ℕ) (o : Option ℕ) → (was : CoreMeets h m) → p ≢ q
      → Aside was.own m (take m q o).0 p
  aside_take h m p q None was ne = aside_still was.own m p
  aside_take h m p q (Some r) was ne = record { stage = slice_get-set_other m.parties q p _ ne; rooms = λ s e next got mine. (got, mine) }

  aside_walk : (h : List (Event ℕ E)) (m : Machine E) (p q r : ℕ) → (was : CoreMeets h m) → p ≢ q
      → slice_get m.parties q ≡ Some (Walking r)
      → Aside was.own m (walk m q r (next_in (slice_get m.rooms r)) (element_in (slice_get m.rooms r))).0 p
  aside_walk h m p q r was ne at =
      let there = walking_at h m q r was at in
      let mine = (walks_on h m q r there.element there.next was (was.parties q (Walking r) at) there.at).0 in
      rw there.at (record { stage = slice_get-set_other m.parties q p _ ne; rooms = Keeps-change (as_free_room q) m.rooms was.own r (Some p) (not_mine was.own r q p mine ne) })

  aside_at : (h : List (Event ℕ E)) (m : Machine E) (p q : ℕ) (s : TransferStep E) (o : Option Stage) → (was : CoreMeets h m)
      → p ≢ q → slice_get m.parties q ≡ o → Aside was.own m (after_step_at m q s o).0 p
  aside_at h m p q (step.Load e) (Some Rest) was ne at = aside_load h m p q e (least_free q m.rooms) was ne refl
  aside_at h m p q step.SetNext (Some (Loaded a)) was ne at =
      let hand = (was.parties q (Loaded a) at).0 in
      record { stage = slice_get-set_other m.parties q p _ ne; rooms = Keeps-change (with_link a.read) m.rooms was.own a.room (Some p) (not_mine was.own a.room q p hand.mine ne) }
  aside_at h m p q step.Exchange (Some (Set a)) was ne at = aside_exchange h m p q a (option_eq nat_eq m.head a.read) was ne at
  aside_at h m p q step.Take (Some Rest) was ne at = aside_take h m p q m.head was ne
  aside_at h m p q step.Walk (Some (Walking r)) was ne at = aside_walk h m p q r was ne at
  aside_at h m p q (step.Load e) None was ne at = aside_still was.own m p
  aside_at h m p q s o was ne at = aside_still was.own m p

  left_aside : (h : List (Event ℕ E)) (m m' : Machine E) (p : ℕ) (o : Option Stage) (left : List E) → (was : CoreMeets h m)
      → Aside was.own m m' p → slice_get m.parties p ≡ o → IsLeftAt m.rooms o left → IsLeftAt m'.rooms o left
  left_aside h m m' p (Some (Walking r)) left was aside at is =
      let w = was.parties p (Walking r) at in
      let same : left ≡ room_elements w.rest = leads_same m.rooms (Some r) left (room_elements w.rest) is (leads_from_linked m.rooms was.own (Some p) (Some r) w.rest w.links) in
      subst (LeadsToElements m'.rooms (Some r)) (sym same) (leads_from_linked m'.rooms was.own (Some p) (Some r) w.rest (LeadsThrough-passed m.rooms was.own m'.rooms was.own (Some p) (Some p) (Some r) w.rest aside.rooms w.links))
  left_aside h m m' p None left was aside at is = is
  left_aside h m m' p (Some Rest) left was aside at is = is
  left_aside h m m' p (Some (Loaded a)) left was aside at is = is
  left_aside h m m' p (Some (Set a)) left was aside at is = is

  -- another's step keeps what p has yet to hand out
  pub left_kept : (h : List (Event ℕ E)) (m : Machine E) (p q : ℕ) (s : TransferStep E) (left : List E) → CoreMeets h m
      → p ≢ q → IsLeft m p left → IsLeft (after_step m q s).0 p left
  left_kept h m p q s left was ne is =
      let m' = (after_step m q s).0 in
      let aside = aside_at h m p q s (slice_get m.parties q) was ne refl in
      subst (λ (o : Option Stage). IsLeftAt m'.rooms o left) (sym aside.stage) (left_aside h m m' p (slice_get m.parties p) left was aside refl is)

  -- a step of p that hands out nothing and takes nothing, and leads from where nothing is left to where nothing is
  idles : (ev : List (Event ℕ E)) (m' : Machine E) (p : ℕ) (stage : Stage) (left : List E) → IsLeftAt m'.rooms (Some stage) []
      → slice_get m'.parties p ≡ Some stage → left ≡ [] → batches p ev ≡ [] → MovesOn p left ev m' []
  idles ev m' p stage left none at empty added = record {
    rest = [];
    is_left = subst (λ (o : Option Stage). IsLeftAt m'.rooms o []) (sym at) none;
    all = ap (λ es. es ++ batches p ev) empty ∙ added;
  }

  own_load : (h : List (Event ℕ E)) (m : Machine E) (p : ℕ) (e : E) (o : Option ℕ) (left : List E)
      → slice_get m.parties p ≡ Some Rest → left ≡ [] → IsLeft m p left
      → MovesOn p left (events_of_answered h p None (step.Load e) (load m p e o).1) (load m p e o).0 (handed_elements (load m p e o).1)
  own_load h m p e None left at empty is = stays m p left is
  own_load h m p e (Some r) left at empty is =
      let a : Attempt = record { room = r; read = m.head } in
      idles (Load p ∷ []) (load m p e (Some r)).0 p (Loaded a) left refl (slice_get-set_same m.parties p (Loaded a) Rest at) empty refl

  own_fails : (h : List (Event ℕ E)) (m : Machine E) (p r : ℕ) (a : Attempt) (hand o : Option E) (left : List E)
      → slice_get m.parties p ≡ Some (Set a) → left ≡ [] → IsLeft m p left
      → MovesOn p left (events_of_answered h p hand step.Exchange (fails m p r o).1) (fails m p r o).0 (handed_elements (fails m p r o).1)
  own_fails h m p r a hand None left at empty is = stays m p left is
  own_fails h m p r a hand (Some e) left at empty is = idles [] (fails m p r (Some e)).0 p Rest left refl (slice_get-set_same m.parties p Rest (Set a) at) empty refl

  own_exchange : (h : List (Event ℕ E)) (m : Machine E) (p : ℕ) (a : Attempt) (hand : Option E) (b : Bool) (left : List E)
      → slice_get m.parties p ≡ Some (Set a) → left ≡ [] → IsLeft m p left
      → MovesOn p left (events_of_answered h p hand step.Exchange (exchange m p a b).1) (exchange m p a b).0 (handed_elements (exchange m p a b).1)
  own_exchange h m p a hand true left at empty is = idles (push_event p hand) (exchange m p a true).0 p Rest left refl (slice_get-set_same m.parties p Rest (Set a) at) empty (batches_push p p hand)
  own_exchange h m p a hand false left at empty is = own_fails h m p a.room a hand (element_in (slice_get m.rooms a.room)) left at empty is

  own_take : (h : List (Event ℕ E)) (m : Machine E) (p : ℕ) (o : Option ℕ) (left : List E) → CoreMeets h m
      → slice_get m.parties p ≡ Some Rest → m.head ≡ o → left ≡ []
      → MovesOn p left (events_of_answered h p None step.Take (take m p o).1) (take m p o).0 (handed_elements (take m p o).1)
  own_take h m p None left was at top empty = idles (Taken p [] ∷ []) m p Rest left refl at empty (batches_mine p [])
  own_take h m p (Some r) left was at top empty =
      let links = leads_from_linked m.rooms was.own None m.head was.chain was.linked in
      let there : LeadsToElements m.rooms (Some r) (reverse (held h)) = subst (LeadsToElements m.rooms (Some r)) was.holds (subst (λ start. LeadsToElements m.rooms start (room_elements was.chain)) top links) in record {
        rest = reverse (held h);
        is_left = subst (λ (o : Option Stage). IsLeftAt m.rooms o (reverse (held h))) (sym (slice_get-set_same m.parties p (Walking r) Rest at)) there;
        all = ap (λ es. es ++ batches p (Taken p (reverse (held h)) ∷ [])) empty ∙ batches_mine p (reverse (held h));
      }

  -- the rest of a walk, where it is at a room or at its end
  left_after : (rooms : List (Room E)) (next : Option ℕ) (es : List E) → LeadsToElements rooms next es
      → IsLeftAt rooms (Some (stage_after_walk next)) es
  left_after rooms None [] l = refl
  left_after rooms None (e ∷ es) l = let a = l.start_is in let no : ⊥ = cc in absurd no
  left_after rooms (Some r) es l = l

  given_handed : (e : E) (next : Option ℕ) → handed_elements (Ok (walk_answer e next)) ≡ e ∷ []
  given_handed e None = refl
  given_handed e (Some r) = refl

  walk_events : (h : List (Event ℕ E)) (p : ℕ) (e : E) (next : Option ℕ) → events_of_answered h p None step.Walk (Ok (walk_answer e next)) ≡ []
  walk_events h p e None = refl
  walk_events h p e (Some r) = refl

  walked_by : (m : Machine E) (own : ℕ → Option ℕ) (p r : ℕ) (e : E) (next : Option ℕ) (rest : List (ℕ × E)) (left : List E)
      → slice_get m.parties p ≡ Some (Walking r) → slice_get m.rooms r ≡ Some (room_in_use e next)
      → LeadsThrough m.rooms own (Some p) (Some r) rest → left ≡ room_elements rest
      → MovesOn p left [] record { head = m.head; rooms = change (as_free_room p) r m.rooms; parties = set m.parties p (stage_after_walk next) } (e ∷ [])
  walked_by m own p r e next [] left at got l same = let no : ⊥ = cc in absurd no
  walked_by m own p r e next (x ∷ xs) left at got l same =
      let start : x.0 ≡ r = let first = l.start_is in cc in
      let reads : Some (room_in_use x.1 l.next) ≡ Some (room_in_use e next) = sym l.room ∙ (ap (slice_get m.rooms) start ∙ got) in
      let room : room_in_use x.1 l.next ≡ room_in_use e next = cc in
      let link : l.next ≡ next = ap (λ (y : Room E). y.next) room in
      let some_element : Some x.1 ≡ Some e = ap (λ (y : Room E). y.element) room in
      let element : x.1 ≡ e = cc in
      let rooms' = change (as_free_room p) r m.rooms in
      let on : LeadsToElements rooms' next (room_elements xs) = subst (λ top. LeadsToElements rooms' top (room_elements xs)) link
      (subst (λ s. LeadsToElements (change (as_free_room p) s m.rooms) l.next (room_elements xs)) start
      (leads_from_linked (change (as_free_room p) x.0 m.rooms) own (Some p) l.next xs (LeadsThrough-change (as_free_room p) m.rooms own (Some p) l.next xs x.0 l.apart l.rest))) in record {
        rest = room_elements xs;
        is_left = subst (λ (o : Option Stage). IsLeftAt rooms' o (room_elements xs)) (sym (slice_get-set_same m.parties p (stage_after_walk next) (Walking r) at)) (left_after rooms' next (room_elements xs) on);
        all = append-nil left ∙ (same ∙ ap (λ (y : E). y ∷ room_elements xs) element);
      }

  own_walk : (h : List (Event ℕ E)) (m : Machine E) (p r : ℕ) (left : List E) → CoreMeets h m
      → slice_get m.parties p ≡ Some (Walking r) → LeadsToElements m.rooms (Some r) left
      → let out = walk m p r (next_in (slice_get m.rooms r)) (element_in (slice_get m.rooms r)) in
      MovesOn p left (events_of_answered h p None step.Walk out.1) out.0 (handed_elements out.1)
  own_walk h m p r left was at is =
      let there = walking_at h m p r was at in
      let w = was.parties p (Walking r) at in
      let same : left ≡ room_elements w.rest = leads_same m.rooms (Some r) left (room_elements w.rest) is (leads_from_linked m.rooms was.own (Some p) (Some r) w.rest w.links) in
      rw (there.at, walk_events, given_handed) (walked_by m was.own p r there.element there.next w.rest left at there.at w.links same)

  own_at : (h : List (Event ℕ E)) (m : Machine E) (p : ℕ) (s : TransferStep E) (o : Option Stage) (left : List E)
      → CoreMeets h m → slice_get m.parties p ≡ o → IsLeftAt m.rooms o left → IsLeft m p left
      → MovesOn p left (events_of_answered h p (in_hand_at m.rooms o) s (after_step_at m p s o).1) (after_step_at m p s o).0 (handed_elements (after_step_at m p s o).1)
  own_at h m p (step.Load e) (Some Rest) left was at is kept = own_load h m p e (least_free p m.rooms) left at is kept
  own_at h m p step.SetNext (Some (Loaded a)) left was at is kept = idles [] (after_step_at m p step.SetNext (Some (Loaded a))).0 p (Set a) left refl (slice_get-set_same m.parties p (Set a) (Loaded a) at) is refl
  own_at h m p step.Exchange (Some (Set a)) left was at is kept = own_exchange h m p a (in_hand_at m.rooms (Some (Set a))) (option_eq nat_eq m.head a.read) left at is kept
  own_at h m p step.Take (Some Rest) left was at is kept = own_take h m p m.head left was at refl is
  own_at h m p step.Walk (Some (Walking r)) left was at is kept = own_walk h m p r left was at is
  own_at h m p (step.Load e) None left was at is kept = stays m p left kept
  own_at h m p s o left was at is kept = stays m p left kept

  moves_on : (h : List (Event ℕ E)) (m : Machine E) (p q : ℕ) (s : TransferStep E) (left : List E) → CoreMeets h m
      → IsLeft m p left → (q ≡ p) ⊎ (q ≢ p)
      → MovesOn p left (step_events h m q s (after_step m q s).1) (after_step m q s).0 (if q == p then handed_elements (after_step m q s).1 else [])
  moves_on h m p q s left was is (inl same) =
      subst (λ n. MovesOn p left (step_events h m n s (after_step m n s).1) (after_step m n s).0 (if n == p then handed_elements (after_step m n s).1 else [])) (sym same)
      (subst (λ t. MovesOn p left (step_events h m p s (after_step m p s).1) (after_step m p s).0 (if t then handed_elements (after_step m p s).1 else [])) (sym (eq-eqb p p refl))
      (own_at h m p s (slice_get m.parties p) left was refl is is))
  moves_on h m p q s left was is (inr ne) =
      let none : batches p (step_events h m q s (after_step m q s).1) ≡ [] = events_other p q h (in_hand_at m.rooms (slice_get m.parties q)) s (after_step m q s).1 ne in
      subst (λ t. MovesOn p left (step_events h m q s (after_step m q s).1) (after_step m q s).0 (if t then handed_elements (after_step m q s).1 else [])) (sym (ne_eqb q p ne))
      record { rest = left; is_left = left_kept h m p q s left was (λ e. ne (sym e)) is; all = ap (λ es. left ++ es) none ∙ append-nil left }

  -- a step of any party
  pub hands_on : (h : List (Event ℕ E)) (m : Machine E) (q : ℕ) (s : TransferStep E) → CoreMeets h m
      → HandsOn h m (h ++ step_events h m q s (after_step m q s).1) (after_step m q s).0 (only q (handed_elements (after_step m q s).1))
  hands_on h m q s was p given out =
      hands_from h (step_events h m q s (after_step m q s).1) (after_step m q s).0 p given (only q (handed_elements (after_step m q s).1) p) out.left out.all
      (moves_on h m p q s out.left was out.is_left (cases_eq q p))

  -- steps of any parties
  pub run_hands : (h : List (Event ℕ E)) (m : Machine E) (ss : List (ℕ × TransferStep E)) → CoreMeets h m
      → HandsOn h m (history_after core_step core_events h m ss) (after core_step m ss) (λ p. handed_elements_of p ss (replies_to core_step m ss))
  run_hands h m [] was p given out = subst (HandsOut h m p) (sym (append-nil given)) out
  run_hands h m (s ∷ ss) was p given out =
      let first = only s.0 (handed_elements (core_step m s).1) p in
      let rest = handed_elements_of p ss (replies_to core_step (core_step m s).0 ss) in
      subst (HandsOut (history_after core_step core_events h m (s ∷ ss)) (after core_step m (s ∷ ss)) p) (append_assoc given first rest)
      (run_hands (h ++ core_events h m s (core_step m s).1) (core_step m s).0 ss (core_steps h m s.0 s.1 was).0 p (given ++ first) (hands_on h m s.0 s.1 was p given out))
