-- A `take_all` that one party runs alone.
use Rattle.std.proofs.Common.{◌≡◌, ℕ, zero, suc, ◌+◌, ◌<◌, ◌≤◌, length, replicate, List, [], ◌∷◌, ◌++◌, set, reverse, refl, ap, sym, ◌∙◌, subst, append_assoc, arith}
use Rattle.std.specs.Prelude.{Option, Some, None, slice_get, IsSome}
use Rattle.std.proofs.lemmas.List.{append-nil, set-set}
use Rattle.cordyceps_base.specs.Runs.{after}
use Rattle.cordyceps_base.proofs.Runs.{after-push}
use Rattle.cordyceps_stack.specs.declared.cores.steps.TransferStep.TheVariants as step
use Rattle.cordyceps_stack.specs.declared.cores.stage.Stage.{Stage}
use Rattle.cordyceps_stack.specs.declared.cores.stage.Stage.TheVariants.{Rest, Walking}
use Rattle.cordyceps_shared.specs.declared.room.Room.{Room}
use Rattle.cordyceps_stack.specs.History.{Event, Taken, held}
use Rattle.cordyceps_shared.specs.Rooms.{change, as_free_room, element_in, next_in}
use Rattle.cordyceps_shared.specs.Rooms.{occupied}
use Rattle.cordyceps_stack.specs.Cores.Machine.{after_step, Machine, stage_after_walk, elements_from, held_in}
use Rattle.cordyceps_stack.specs.Cores.Stages.{room_in_use, NotAmong, LeadsThrough, room_elements}
use Rattle.cordyceps_stack.specs.Cores.CoreMeets.{core_step, CoreMeets, IsSound}
use Rattle.cordyceps_stack.specs.Cores.Alone.{take_steps}
use Rattle.cordyceps_shared.proofs.Choices.{occupied_cons}
use Rattle.cordyceps_shared.proofs.ListWrites.{slice_get-set_same, set_as_it_was}
use Rattle.cordyceps_stack.proofs.CoreTheory.Chains.{or_to, all_to, LeadsThrough-passed, LeadsThrough-change, LeadsThrough-none}
use Rattle.cordyceps_stack.proofs.CoreTheory.EachStep.{keeps_take, keeps_nothing, keeps_walk}
use Rattle.cordyceps_stack.proofs.CoreTheory.AnyStep.{HasElement, none_held, first_of_rest}
use Rattle.cordyceps_stack.proofs.CoreTheory.CoreKeeps.{element_at}

pair_of : {A B : Type 0} {a a' : A} {b b' : B} → a ≡ a' → b ≡ b' → ◌≡◌ {A = A × B} (a, b) (a', b')
pair_of p q = cc

length_push : {X : Type 0} (xs : List X) (y : X) → length (xs ++ y ∷ []) ≡ suc (length xs)
length_push [] y = refl
length_push (x ∷ xs) y = ap suc (length_push xs y)

one_more : {X : Type 0} (n : ℕ) (y : X) → replicate n y ++ y ∷ [] ≡ replicate (suc n) y
one_more zero y = refl
one_more (suc n) y = ap (λ ys. y ∷ ys) (one_more n y)

module _ {E : Type 0} where
  -- from `at` the links lead through p's own rooms, and what was given and is in these is all
  pub record Hands (all given : List E) (rooms : List (Room E)) (p : ℕ) (at : Option ℕ) : Type 0 where
    pub own : ℕ → Option ℕ
    pub rest : List (ℕ × E)
    pub links : LeadsThrough rooms own (Some p) at rest
    pub whole : given ++ room_elements rest ≡ all

  -- a core in the midst of a `take_all`
  pub record Clearing (first : Machine E) (p : ℕ) (rooms : List (Room E)) (parties : List Stage) (at : Option ℕ) (given : List E) : Type 0 where
    pub sound : IsSound first
    pub steps : record { head = None; rooms = rooms; parties = set parties p (stage_after_walk at) } ≡ after core_step first (take_steps p (length given))
    pub at_rest : slice_get parties p ≡ Some Rest
    pub law : (h : List (Event ℕ E)) → CoreMeets h first
        → CoreMeets (h ++ Taken p (reverse (held h)) ∷ []) record { head = None; rooms = rooms; parties = set parties p (stage_after_walk at) } × Hands (reverse (held h)) given rooms p at

  start_meets : (h : List (Event ℕ E)) (m : Machine E) (p : ℕ) (top : Option ℕ) → CoreMeets h m → slice_get m.parties p ≡ Some Rest → m.head ≡ top → CoreMeets (h ++ Taken p (reverse (held h)) ∷ []) record { head = None; rooms = m.rooms; parties = set m.parties p (stage_after_walk top) }
  start_meets h m p None was at top =
      let none : [] ≡ reverse (held h) = sym (ap reverse (none_held h m was top)) in
      subst (λ (b : List E). CoreMeets (h ++ Taken p b ∷ []) record { head = None; rooms = m.rooms; parties = set m.parties p Rest }) none
      (subst (λ (n : Machine E). CoreMeets (h ++ Taken p [] ∷ []) n)
      (ap (λ (x : Option ℕ × List Stage). let n : Machine E = record { head = x.0; rooms = m.rooms; parties = x.1 } in n) (pair_of top (sym (set_as_it_was m.parties p Rest at))))
      (keeps_nothing h m p was at top))
  start_meets h m p (Some r) was at top = keeps_take h m p r was at top

  start_steps : (m : Machine E) (p : ℕ) (top : Option ℕ) → slice_get m.parties p ≡ Some Rest → m.head ≡ top → record { head = None; rooms = m.rooms; parties = set m.parties p (stage_after_walk top) } ≡ (after_step m p step.Take).0
  start_steps m p None at top = rw (at, top, set_as_it_was m.parties p Rest at) refl
  start_steps m p (Some r) at top = rw (at, top) refl

  -- one walking step more
  more_steps : (first : Machine E) (p r walks : ℕ) (rooms : List (Room E)) (parties : List Stage) (e : E) (next : Option ℕ) → slice_get parties p ≡ Some Rest → slice_get rooms r ≡ Some (room_in_use e next) → record { head = None; rooms = rooms; parties = set parties p (Walking r) } ≡ after core_step first (take_steps p walks)
      → record { head = None; rooms = change (as_free_room p) r rooms; parties = set parties p (stage_after_walk next) } ≡ after core_step first (take_steps p (suc walks))
  more_steps first p r walks rooms parties e next at got before =
      let m : Machine E = record { head = None; rooms = rooms; parties = set parties p (Walking r) } in
      let there : slice_get m.parties p ≡ Some (Walking r) = slice_get-set_same parties p (Walking r) Rest at in
      let one : record { head = None; rooms = change (as_free_room p) r rooms; parties = set parties p (stage_after_walk next) } ≡ (after_step m p step.Walk).0 = rw (there, got, set-set) refl in
      one ∙ (ap (λ (n : Machine E). (after_step n p step.Walk).0) before ∙ (sym (after-push core_step first (take_steps p walks) (p, step.Walk)) ∙ ap (λ ws. after core_step first ((p, step.Take) ∷ ws)) (one_more walks (p, step.Walk))))

  pub clear_start : (m : Machine E) (p : ℕ) → IsSound m → slice_get m.parties p ≡ Some Rest
      → Clearing m p m.rooms m.parties m.head []
  clear_start m p sound at =
      record {
        sound = sound;
        steps = start_steps m p m.head at refl;
        at_rest = at;
        law = λ h was. (
          start_meets h m p m.head was at refl,
          record {
            own = all_to was.own p;
            rest = was.chain;
            links = LeadsThrough-passed m.rooms was.own m.rooms (all_to was.own p) None (Some p) m.head was.chain (λ s e next got mine. (got, ap (or_to p) mine)) was.linked;
            whole = was.holds;
          },
        );
      }

  -- there is an element where the walk is
  pub clear_room : (first : Machine E) (p r : ℕ) (rooms : List (Room E)) (parties : List Stage) (given : List E)
      → Clearing first p rooms parties (Some r) given → HasElement rooms r
  clear_room first p r rooms parties given c = let hands = (c.law c.sound.0 c.sound.1).1 in first_of_rest rooms hands.own (Some p) r hands.rest hands.links

  hands_on : (all given : List E) (rooms : List (Room E)) (p r : ℕ) (e : E) (next : Option ℕ) (own : ℕ → Option ℕ) (rest : List (ℕ × E)) → LeadsThrough rooms own (Some p) (Some r) rest → given ++ room_elements rest ≡ all → slice_get rooms r ≡ Some (room_in_use e next) → Hands all (given ++ e ∷ []) (change (as_free_room p) r rooms) p next
  hands_on all given rooms p r e next own [] l whole got = let no : ⊥ = cc in absurd no
  hands_on all given rooms p r e next own (x ∷ xs) l whole got =
      let start : x.0 ≡ r = let first = l.start_is in cc in
      let both : Some (room_in_use x.1 l.next) ≡ Some (room_in_use e next) = sym l.room ∙ (ap (slice_get rooms) start ∙ got) in
      let room : room_in_use x.1 l.next ≡ room_in_use e next = cc in
      let link : l.next ≡ next = ap (λ (y : Room E). y.next) room in
      let some_element : Some x.1 ≡ Some e = ap (λ (y : Room E). y.element) room in
      let element : x.1 ≡ e = cc in
      record {
        own = own;
        rest = xs;
        links = LeadsThrough-change (as_free_room p) rooms own (Some p) next xs r (subst (λ s. NotAmong s xs) start l.apart) (subst (λ top. LeadsThrough rooms own (Some p) top xs) link l.rest);
        whole = append_assoc given (e ∷ []) (room_elements xs) ∙ (ap (λ (y : E). given ++ y ∷ room_elements xs) (sym element) ∙ whole);
      }

  pub clear_more : (first : Machine E) (p r : ℕ) (rooms : List (Room E)) (parties : List Stage) (given : List E) (e : E) (next : Option ℕ) → Clearing first p rooms parties (Some r) given → slice_get rooms r ≡ Some (room_in_use e next) → Clearing first p (change (as_free_room p) r rooms) parties next (given ++ e ∷ [])
  clear_more first p r rooms parties given e next c got =
      record {
        sound = c.sound;
        steps = more_steps first p r (length given) rooms parties e next c.at_rest got c.steps ∙ ap (λ n. after core_step first (take_steps p n)) (sym (length_push given e));
        at_rest = c.at_rest;
        law = λ h was.
            let now = c.law h was in
            let m : Machine E = record { head = None; rooms = rooms; parties = set parties p (Walking r) } in
            let at : slice_get m.parties p ≡ Some (Walking r) = slice_get-set_same parties p (Walking r) Rest c.at_rest in
            let met = keeps_walk (h ++ Taken p (reverse (held h)) ∷ []) m p r e next now.0 at got in
            (rw set-set at met, hands_on (reverse (held h)) given rooms p r e next now.1.own now.1.rest now.1.links now.1.whole got);
      }

  pub clear_end : (first : Machine E) (p : ℕ) (rooms : List (Room E)) (parties : List Stage) (given : List E) → Clearing first p rooms parties None given → (h : List (Event ℕ E)) → CoreMeets h first → (given ≡ reverse (held h)) × CoreMeets (h ++ Taken p given ∷ []) record { head = None; rooms = rooms; parties = parties }
  clear_end first p rooms parties given c h was =
      let now = c.law h was in
      let empty : room_elements now.1.rest ≡ [] = LeadsThrough-none rooms now.1.own (Some p) now.1.rest now.1.links in
      let all : given ≡ reverse (held h) = sym (append-nil given) ∙ (ap (λ (es : List E). given ++ es) (sym empty) ∙ now.1.whole) in
      let met : CoreMeets (h ++ Taken p (reverse (held h)) ∷ []) record { head = None; rooms = rooms; parties = parties } = rw (set_as_it_was parties p Rest c.at_rest) at now.0 in
      (all, subst (λ (b : List E). CoreMeets (h ++ Taken p b ∷ []) record { head = None; rooms = rooms; parties = parties }) (sym all) met)

  -- a room fewer has an element
  pub occupied_freed : (p r : ℕ) (rooms : List (Room E)) (e : E) (next : Option ℕ) → slice_get rooms r ≡ Some (room_in_use e next)
      → occupied (change (as_free_room p) r rooms) + 1 ≡ occupied rooms
  occupied_freed p r [] e next got = let no : ⊥ = cc in absurd no
  occupied_freed p zero (x ∷ xs) e next got =
      let same : x ≡ room_in_use e next = cc in
      rw same (omega (arith, occupied_cons (as_free_room p (room_in_use e next)) xs, occupied_cons (room_in_use e next) xs))
  occupied_freed p (suc r) (x ∷ xs) e next got =
      let more : occupied (change (as_free_room p) r xs) + 1 ≡ occupied xs = occupied_freed p r xs e next got in
      omega (arith, occupied_cons x xs, occupied_cons x (change (as_free_room p) r xs))

  pub clear_next : (first : Machine E) (p r : ℕ) (rooms : List (Room E)) (parties : List Stage) (given : List E) (rooms' : List (Room E)) (at' : Option ℕ) (x : E) → Clearing first p rooms parties (Some r) given → rooms' ≡ change (as_free_room p) r rooms → at' ≡ next_in (slice_get rooms r) → element_in (slice_get rooms r) ≡ Some x
      → Clearing first p rooms' parties at' (given ++ x ∷ [])
  clear_next first p r rooms parties given rooms' at' x c freed follows gave =
      let there = clear_room first p r rooms parties given c in
      let same : Some there.element ≡ Some x = sym (ap element_in there.at) ∙ gave in
      let element : there.element ≡ x = cc in
      let next : at' ≡ there.next = follows ∙ ap next_in there.at in
      rw (freed, next, ← element) (clear_more first p r rooms parties given there.element there.next c there.at)

  pub clear_counts : (first : Machine E) (p r : ℕ) (rooms : List (Room E)) (parties : List Stage) (given : List E) (rooms' : List (Room E)) → Clearing first p rooms parties (Some r) given → rooms' ≡ change (as_free_room p) r rooms → occupied rooms' + 1 ≡ occupied rooms
  clear_counts first p r rooms parties given rooms' c freed =
      let there = clear_room first p r rooms parties given c in
      ap (λ (rs : List (Room E)). occupied rs + 1) freed ∙ occupied_freed p r rooms there.element there.next there.at

  -- the room r is there, and has an element
  pub record IsWithin (rooms : List (Room E)) (r : ℕ) : Type 0 where
    pub within : r < length rooms
    pub full : IsSome (element_in (slice_get rooms r))
    pub some_used : 0 < occupied rooms

  pub clear_within : (first : Machine E) (p r : ℕ) (rooms : List (Room E)) (parties : List Stage) (given : List E)
      → Clearing first p rooms parties (Some r) given → IsWithin rooms r
  clear_within first p r rooms parties given c =
      let there = clear_room first p r rooms parties given c in
      let m : Machine E = record { head = None; rooms = rooms; parties = parties } in
      let both = element_at m r there in
      let count : occupied (change (as_free_room p) r rooms) + 1 ≡ occupied rooms = occupied_freed p r rooms there.element there.next there.at in
      record { within = both.0; full = both.1; some_used = omega (arith, count) }

  pub clear_machine : (first : Machine E) (p : ℕ) (rooms : List (Room E)) (parties : List Stage) (given : List E) → Clearing first p rooms parties None given → record { head = None; rooms = rooms; parties = parties } ≡ after core_step first (take_steps p (length given))
  clear_machine first p rooms parties given c = ap (λ (ps : List Stage). let n : Machine E = record { head = None; rooms = rooms; parties = ps } in n) (sym (set_as_it_was parties p Rest c.at_rest)) ∙ c.steps

  no_elements : (n : ℕ) (rooms : List (Room E)) → elements_from n rooms None ≡ []
  no_elements zero rooms = refl
  no_elements (suc n) rooms = refl

  elements_there : (n : ℕ) (rooms : List (Room E)) (own : ℕ → Option ℕ) (w start : Option ℕ) (xs : List (ℕ × E)) → LeadsThrough rooms own w start xs
      → length xs ≤ n → elements_from n rooms start ≡ room_elements xs
  elements_there n rooms own w start [] l within = ap (elements_from n rooms) l ∙ no_elements n rooms
  elements_there zero rooms own w start (x ∷ xs) l within = absurd (omega arith)
  elements_there (suc n) rooms own w start (x ∷ xs) l within =
      let shorter : length xs ≤ n = omega arith in
      let more : elements_from n rooms l.next ≡ room_elements xs = elements_there n rooms own w l.next xs l.rest shorter in
      rw (l.start_is, l.room) (ap (λ es. x.1 ∷ es) more)

  -- each room that the links lead through has an element
  chain_within : (rooms : List (Room E)) (own : ℕ → Option ℕ) (w start : Option ℕ) (xs : List (ℕ × E)) → LeadsThrough rooms own w start xs → length xs ≤ occupied rooms
  chain_within rooms own w start [] l = omega arith
  chain_within rooms own w start (x ∷ xs) l =
      let freed = change (as_free_room 0) x.0 rooms in
      let more : length xs ≤ occupied freed = chain_within freed own w l.next xs (LeadsThrough-change (as_free_room 0) rooms own w l.next xs x.0 l.apart l.rest) in
      let count : occupied freed + 1 ≡ occupied rooms = occupied_freed 0 x.0 rooms x.1 l.next l.room in
      omega (arith, more, count)

  -- what a machine holds is what its history does
  pub held_there : (h : List (Event ℕ E)) (m : Machine E) → CoreMeets h m → held_in m ≡ reverse (held h)
  held_there h m was =
      elements_there (occupied m.rooms) m.rooms was.own None m.head was.chain was.linked (chain_within m.rooms was.own None m.head was.chain was.linked) ∙ was.holds

  pub clear_batch : (first : Machine E) (p : ℕ) (rooms : List (Room E)) (parties : List Stage) (given : List E) → Clearing first p rooms parties None given
      → given ≡ held_in first
  clear_batch first p rooms parties given c = (clear_end first p rooms parties given c c.sound.0 c.sound.1).0 ∙ sym (held_there c.sound.0 first c.sound.1)
