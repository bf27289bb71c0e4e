-- Each step of a machine that meets a history leads to one that meets the history with the step's events.
use Rattle.std.proofs.Common.{◌≡◌, ◌≢◌, ℕ, List, [], ◌∷◌, ◌++◌, reverse, refl, ap, sym, ◌∙◌, subst, inl, inr, ◌⊎◌, append_assoc, set}
use Rattle.std.specs.Prelude.{Option, Some, None, slice_get}
use Rattle.std.proofs.lemmas.List.{reverse-append}
use Rattle.std.proofs.lemmas.Bool.{cases_eq}
use Rattle.cordyceps_stack.specs.declared.cores.stage.Attempt.{Attempt}
use Rattle.cordyceps_stack.specs.declared.cores.stage.Stage.{Stage}
use Rattle.cordyceps_stack.specs.declared.cores.stage.Stage.TheVariants.{Rest, Loaded, Set, Walking}
use Rattle.cordyceps_shared.specs.declared.room.Room.{Room}
use Rattle.cordyceps_stack.specs.History.{Event, Load, Push, Taken, held, Legal, NoLoad, NoTaken, IsByAnother, SomeByAnother, LastLoad, LastBatch}
use Rattle.cordyceps_shared.specs.Rooms.{change, with_link, as_free_room}
use Rattle.cordyceps_stack.specs.Cores.Machine.{Machine, with_element, stage_after_walk}
use Rattle.cordyceps_stack.specs.Cores.Stages.{room_in_use, NotAmong, LeadsThrough, room_elements, InHand, HasRead, HasBatchLeft, AtStage}
use Rattle.cordyceps_stack.specs.Cores.CoreMeets.{CoreMeets}
use Rattle.cordyceps_shared.proofs.ListWrites.{slice_get-set_same, slice_get-set_other, slice_get-change_same, set_as_it_was}
use Rattle.cordyceps_stack.proofs.Histories.{held_more, legal_more, loaded_now, loaded_more, batch_now, batch_more, another_more, another_last}
use Rattle.cordyceps_stack.proofs.CoreTheory.Chains.{relabel, relabel_here, all_to, or_to, Keeps, LeadsThrough-passed, NoneOf-label, LeadsThrough-change, Keeps-change, Keeps-relabel, Keeps-fresh, LeadsThrough-none, LeadsThrough-some}

pub not_mine : (own : ℕ → Option ℕ) (r p q : ℕ) → own r ≡ Some p → q ≢ p → own r ≢ Some q
not_mine own r p q mine ne e = let same : q ≡ p = cc in ne same

not_none : (own : ℕ → Option ℕ) (r p : ℕ) → own r ≡ Some p → own r ≢ None
not_none own r p mine e = let no : ⊥ = cc in no

module _ {E : Type 0} where
  abbrev hand_on : (rooms : List (Room E)) (own : ℕ → Option ℕ) (rooms' : List (Room E)) (own' : ℕ → Option ℕ) (q r : ℕ)
      → Keeps rooms own rooms' own' (Some q) → InHand rooms own q r → InHand rooms' own' q r
  hand_on rooms own rooms' own' q r k hand =
      let here = k r hand.element hand.next hand.room hand.mine in
      record { element = hand.element; next = hand.next; room = here.0; mine = here.1 }

  -- q's last load is one in the history as it went on. Where something of another followed it, something does, as also
  -- where `head` has changed
  pub record LoadsOn (q : ℕ) (h' since : List (Event ℕ E)) (head head' : Option ℕ) : Type 0 where
    pub since' : List (Event ℕ E)
    pub loaded : LastLoad q h' since'
    pub kept : SomeByAnother q since → SomeByAnother q since'
    pub moved : (head' ≡ head) ⊎ SomeByAnother q since'

  -- what a party that takes no step needs of the history as it goes on, and of `head`
  pub record Goes (q : ℕ) (h h' : List (Event ℕ E)) (head head' : Option ℕ) : Type 0 where
    pub loads : (since : List (Event ℕ E)) → LastLoad q h since → LoadsOn q h' since head head'
    pub batches : (batch : List E) → LastBatch q h batch → LastBatch q h' batch

  pub goes_idle : (q : ℕ) (h : List (Event ℕ E)) (head head' : Option ℕ) → head' ≡ head → Goes q h h head head'
  goes_idle q h head head' e = record {
    loads = λ since l. record { since' = since; loaded = l; kept = λ s. s; moved = inl e };
    batches = λ batch l. l;
  }

  pub goes_event : (q : ℕ) (h : List (Event ℕ E)) (v : Event ℕ E) (head head' : Option ℕ) → NoLoad q (v ∷ [])
      → NoTaken q (v ∷ []) → (head' ≡ head) ⊎ IsByAnother q v → Goes q h (h ++ v ∷ []) head head'
  goes_event q h v head head' no_load no_taken moved =
      record {
        loads = λ since l. record {
          since' = since ++ v ∷ [];
          loaded = loaded_more q h since v l no_load;
          kept = λ s. another_more q since (v ∷ []) s;
          moved = elim moved [ inl e ↦ inl e | inr s ↦ inr (another_last q since v s) ];
        };
        batches = λ batch l. batch_more q h batch v l no_taken;
      }

  knows_on : (q : ℕ) (h h' : List (Event ℕ E)) (head head' read : Option ℕ) → Goes q h h' head head' → HasRead h q head read
      → HasRead h' q head' read
  knows_on q h h' head head' read goes k =
      let g = goes.loads k.since k.loaded in
      record { since = g.since'; loaded = g.loaded; moved = λ ne. elim g.moved [ inl same ↦ g.kept (k.moved (λ e. ne (same ∙ e))) | inr s ↦ s ] }

  -- a party that takes no step is where it was
  pub bystander : (h h' : List (Event ℕ E)) (head head' : Option ℕ) (rooms : List (Room E)) (own : ℕ → Option ℕ) (rooms' : List (Room E)) (own' : ℕ → Option ℕ) (q : ℕ) (stage : Stage) → Goes q h h' head head' → Keeps rooms own rooms' own' (Some q) → AtStage h head rooms own q stage → AtStage h' head' rooms' own' q stage
  bystander h h' head head' rooms own rooms' own' q Rest goes k a = tt
  bystander h h' head head' rooms own rooms' own' q (Loaded t) goes k a = (hand_on rooms own rooms' own' q t.room k a.0, knows_on q h h' head head' t.read goes a.1)
  bystander h h' head head' rooms own rooms' own' q (Set t) goes k a =
      record { hand = hand_on rooms own rooms' own' q t.room k a.hand; link = a.link; read = knows_on q h h' head head' t.read goes a.read }
  bystander h h' head head' rooms own rooms' own' q (Walking r) goes k a =
      record {
        rest = a.rest;
        links = LeadsThrough-passed rooms own rooms' own' (Some q) (Some q) (Some r) a.rest k a.links;
        batch = a.batch;
        taken = goes.batches a.batch a.taken;
        given = a.given;
        end = a.end;
      }

  -- what a step of p leaves
  pub record Leaves (h h' : List (Event ℕ E)) (m : Machine E) (own : ℕ → Option ℕ) (p : ℕ) (head' : Option ℕ) (rooms' : List (Room E)) (stage' : Stage) : Type 0 where
    pub legal : Legal h'
    pub own' : ℕ → Option ℕ
    pub chain : List (ℕ × E)
    pub linked : LeadsThrough rooms' own' None head' chain
    pub holds : room_elements chain ≡ reverse (held h')
    pub goes : (q : ℕ) → q ≢ p → Goes q h h' m.head head'
    pub keeps : (q : ℕ) → q ≢ p → Keeps m.rooms own rooms' own' (Some q)
    pub mine : AtStage h' head' rooms' own' p stage'

  pub meets_on : (h h' : List (Event ℕ E)) (m : Machine E) (p : ℕ) (head' : Option ℕ) (rooms' : List (Room E)) (stage stage' : Stage) → (was : CoreMeets h m) → slice_get m.parties p ≡ Some stage → Leaves h h' m was.own p head' rooms' stage' → CoreMeets h' record { head = head'; rooms = rooms'; parties = set m.parties p stage' }
  meets_on h h' m p head' rooms' stage stage' was at l =
      record {
        legal = l.legal;
        own = l.own';
        chain = l.chain;
        linked = l.linked;
        holds = l.holds;
        parties = λ q there got. elim (cases_eq q p) [
          | inl e ↦
              let same : Some stage' ≡ Some there = sym (slice_get-set_same m.parties p stage' stage at) ∙ (ap (slice_get (set m.parties p stage')) (sym e) ∙ got) in
              let same_stage : stage' ≡ there = cc in
              subst (λ s. AtStage h' head' rooms' l.own' s there) (sym e) (subst (AtStage h' head' rooms' l.own' p) same_stage l.mine)
          | inr ne ↦
              bystander h h' m.head head' m.rooms was.own rooms' l.own' q there (l.goes q ne) (l.keeps q ne) (was.parties q there (sym (slice_get-set_other m.parties p q stage' ne) ∙ got))
        ];
      }

  pub keeps_load : (h : List (Event ℕ E)) (m : Machine E) (p r o : ℕ) (e : E) (room : Room E) → CoreMeets h m
      → slice_get m.parties p ≡ Some Rest → slice_get m.rooms r ≡ Some room → room.owner ≡ Some o
      → CoreMeets (h ++ Load p ∷ []) record { head = m.head; rooms = change (with_element e) r m.rooms; parties = set m.parties p (Loaded record { room = r; read = m.head }) }
  keeps_load h m p r o e room was at got free =
      let fresh : (w : Option ℕ) → Keeps m.rooms was.own (change (with_element e) r m.rooms) (relabel was.own r (Some p)) w = λ w. Keeps-fresh (with_element e) m.rooms was.own r room (Some p) w o got free in
      meets_on h (h ++ Load p ∷ []) m p m.head (change (with_element e) r m.rooms) Rest (Loaded record { room = r; read = m.head }) was at
      record {
        legal = legal_more h (Load p) was.legal tt;
        own' = relabel was.own r (Some p);
        chain = was.chain;
        linked = LeadsThrough-passed m.rooms was.own (change (with_element e) r m.rooms) (relabel was.own r (Some p)) None None m.head was.chain (fresh None) was.linked;
        holds = was.holds ∙ ap reverse (sym (held_more h (Load p)));
        goes = λ q ne. goes_event q h (Load p) m.head m.head ((λ e. ne (sym e)), tt) tt (inl refl);
        keeps = λ q ne. fresh (Some q);
        mine = (
          record { element = e; next = room.next; room = slice_get-change_same (with_element e) m.rooms r room got; mine = relabel_here was.own r (Some p) },
          record { since = []; loaded = loaded_now p h; moved = λ ne. absurd (ne refl) },
        );
      }

  -- a change to p's own room that adds no event
  own_room : (h : List (Event ℕ E)) (m : Machine E) (p r : ℕ) (f : Room E → Room E) (stage stage' : Stage)
      → (was : CoreMeets h m) → slice_get m.parties p ≡ Some stage → was.own r ≡ Some p
      → AtStage h m.head (change f r m.rooms) was.own p stage'
      → CoreMeets h record { head = m.head; rooms = change f r m.rooms; parties = set m.parties p stage' }
  own_room h m p r f stage stage' was at mine there =
      meets_on h h m p m.head (change f r m.rooms) stage stage' was at
      record {
        legal = was.legal;
        own' = was.own;
        chain = was.chain;
        linked = LeadsThrough-passed m.rooms was.own (change f r m.rooms) was.own None None m.head was.chain (Keeps-change f m.rooms was.own r None (not_none was.own r p mine)) was.linked;
        holds = was.holds;
        goes = λ q ne. goes_idle q h m.head m.head refl;
        keeps = λ q ne. Keeps-change f m.rooms was.own r (Some q) (not_mine was.own r p q mine ne);
        mine = there;
      }

  pub keeps_set_next : (h : List (Event ℕ E)) (m : Machine E) (p : ℕ) (a : Attempt) → CoreMeets h m
      → slice_get m.parties p ≡ Some (Loaded a)
      → CoreMeets h record { head = m.head; rooms = change (with_link a.read) a.room m.rooms; parties = set m.parties p (Set a) }
  keeps_set_next h m p a was at =
      let here = was.parties p (Loaded a) at in
      own_room h m p a.room (with_link a.read) (Loaded a) (Set a) was at here.0.mine
      record {
        hand = record { element = here.0.element; next = a.read; room = slice_get-change_same (with_link a.read) m.rooms a.room (room_in_use here.0.element here.0.next) here.0.room; mine = here.0.mine };
        link = refl;
        read = here.1;
      }

  pub keeps_fail : (h : List (Event ℕ E)) (m : Machine E) (p : ℕ) (a : Attempt) → CoreMeets h m
      → slice_get m.parties p ≡ Some (Set a)
      → CoreMeets h record { head = m.head; rooms = change (as_free_room p) a.room m.rooms; parties = set m.parties p Rest }
  keeps_fail h m p a was at = own_room h m p a.room (as_free_room p) (Set a) Rest was at (was.parties p (Set a) at).hand.mine tt

  pub keeps_push : (h : List (Event ℕ E)) (m : Machine E) (p : ℕ) (a : Attempt) (e : E) (next : Option ℕ)
      → CoreMeets h m → slice_get m.parties p ≡ Some (Set a) → m.head ≡ a.read
      → slice_get m.rooms a.room ≡ Some (room_in_use e next)
      → CoreMeets (h ++ Push p e ∷ []) record { head = Some a.room; rooms = m.rooms; parties = set m.parties p Rest }
  keeps_push h m p a e next was at same got =
      let here = was.parties p (Set a) at in
      let hand = here.hand in
      let one : room_in_use hand.element hand.next ≡ room_in_use e next = let both : Some (room_in_use hand.element hand.next) ≡ Some (room_in_use e next) = sym hand.room ∙ got in cc in
      let link : m.head ≡ next = same ∙ (sym here.link ∙ ap (λ (x : Room E). x.next) one) in
      let after : ℕ → Option ℕ = relabel was.own a.room None in
      meets_on h (h ++ Push p e ∷ []) m p (Some a.room) m.rooms (Set a) Rest was at
      record {
        legal = legal_more h (Push p e) was.legal tt;
        own' = relabel was.own a.room None;
        chain = (a.room, e) ∷ was.chain;
        linked = record {
          next = next;
          start_is = refl;
          room = got;
          mine = relabel_here was.own a.room None;
          apart = NoneOf-label m.rooms was.own None m.head was.chain a.room (not_none was.own a.room p hand.mine) was.linked;
          rest = subst (λ start. LeadsThrough m.rooms (relabel was.own a.room None) None start was.chain) link (LeadsThrough-passed m.rooms was.own m.rooms (relabel was.own a.room None) None None m.head was.chain (Keeps-relabel m.rooms was.own a.room None None (not_none was.own a.room p hand.mine)) was.linked);
        };
        holds = ap (λ es. e ∷ es) was.holds ∙ (sym (reverse-append (held h) (e ∷ [])) ∙ ap reverse (sym (held_more h (Push p e))));
        goes = λ q ne. goes_event q h (Push p e) m.head (Some a.room) tt tt (inr (λ e. ne (sym e)));
        keeps = λ q ne. Keeps-relabel m.rooms was.own a.room None (Some q) (not_mine was.own a.room p q hand.mine ne);
        mine = tt;
      }

  pub keeps_take : (h : List (Event ℕ E)) (m : Machine E) (p r : ℕ) → CoreMeets h m
      → slice_get m.parties p ≡ Some Rest → m.head ≡ Some r
      → CoreMeets (h ++ Taken p (reverse (held h)) ∷ []) record { head = None; rooms = m.rooms; parties = set m.parties p (Walking r) }
  keeps_take h m p r was at top =
      let links = subst (λ start. LeadsThrough m.rooms was.own None start was.chain) top was.linked in
      let v : Event ℕ E = Taken p (reverse (held h)) in
      meets_on h (h ++ Taken p (reverse (held h)) ∷ []) m p None m.rooms Rest (Walking r) was at
      record {
        legal = legal_more h (Taken p (reverse (held h))) was.legal refl;
        own' = all_to was.own p;
        chain = [];
        linked = refl;
        holds = ap reverse (sym (held_more h (Taken p (reverse (held h)))));
        goes = λ q ne. goes_event q h (Taken p (reverse (held h))) m.head None tt ((λ e. ne (sym e)), tt) (inr ((λ e. ne (sym e)), λ e. LeadsThrough-some m.rooms was.own None r was.chain links (was.holds ∙ e)));
        keeps = λ q ne s e next got mine. (got, ap (or_to p) mine);
        mine = record {
          rest = was.chain;
          links = LeadsThrough-passed m.rooms was.own m.rooms (all_to was.own p) None (Some p) (Some r) was.chain (λ s e next got mine. (got, ap (or_to p) mine)) links;
          batch = reverse (held h);
          taken = batch_now p h (reverse (held h));
          given = [];
          end = was.holds;
        };
      }

  pub keeps_nothing : (h : List (Event ℕ E)) (m : Machine E) (p : ℕ) → CoreMeets h m
      → slice_get m.parties p ≡ Some Rest → m.head ≡ None
      → CoreMeets (h ++ Taken p [] ∷ []) m
  keeps_nothing h m p was at top =
      let links = subst (λ start. LeadsThrough m.rooms was.own None start was.chain) top was.linked in
      let empty : room_elements was.chain ≡ [] = LeadsThrough-none m.rooms was.own None was.chain links in
      subst (λ ps. CoreMeets (h ++ Taken p [] ∷ []) record { head = m.head; rooms = m.rooms; parties = ps }) (set_as_it_was m.parties p Rest at)
      (meets_on h (h ++ Taken p [] ∷ []) m p m.head m.rooms Rest Rest was at
      record {
        legal = legal_more h (Taken p []) was.legal (sym empty ∙ was.holds);
        own' = was.own;
        chain = was.chain;
        linked = was.linked;
        holds = empty ∙ ap reverse (sym (held_more h (Taken p [])));
        goes = λ q ne. goes_event q h (Taken p []) m.head m.head tt ((λ e. ne (sym e)), tt) (inl refl);
        keeps = λ q ne s e next got mine. (got, mine);
        mine = tt;
      })

  -- where the walk goes on
  walks_to : (h : List (Event ℕ E)) (m : Machine E) (p r : ℕ) (next : Option ℕ) (own : ℕ → Option ℕ) (xs : List (ℕ × E)) (e : E) → NotAmong r xs → LeadsThrough m.rooms own (Some p) next xs → (batch : List E) → LastBatch p h batch → (given : List E) → given ++ e ∷ room_elements xs ≡ batch
      → AtStage h m.head (change (as_free_room p) r m.rooms) own p (stage_after_walk next)
  walks_to h m p r None own xs e apart l batch taken given end = tt
  walks_to h m p r (Some s) own xs e apart l batch taken given end =
      record {
        rest = xs;
        links = LeadsThrough-change (as_free_room p) m.rooms own (Some p) (Some s) xs r apart l;
        batch = batch;
        taken = taken;
        given = given ++ e ∷ [];
        end = append_assoc given (e ∷ []) (room_elements xs) ∙ end;
      }

  walks_at : (h : List (Event ℕ E)) (m : Machine E) (p r : ℕ) (e : E) (next : Option ℕ) (own : ℕ → Option ℕ) (rest : List (ℕ × E)) → LeadsThrough m.rooms own (Some p) (Some r) rest → (batch : List E) → LastBatch p h batch → (given : List E) → given ++ room_elements rest ≡ batch → slice_get m.rooms r ≡ Some (room_in_use e next)
      → (own r ≡ Some p) × AtStage h m.head (change (as_free_room p) r m.rooms) own p (stage_after_walk next)
  walks_at h m p r e next own [] l batch taken given end got = let no : ⊥ = cc in absurd no
  walks_at h m p r e next own (x ∷ xs) l batch taken given end got =
      let start : x.0 ≡ r = let first = l.start_is in cc in
      let rooms : Some (room_in_use x.1 l.next) ≡ Some (room_in_use e next) = sym l.room ∙ (ap (slice_get m.rooms) start ∙ got) in
      let room : room_in_use x.1 l.next ≡ room_in_use e next = cc in
      let link : l.next ≡ next = ap (λ (y : Room E). y.next) room in (
        ap own (sym start) ∙ l.mine,
        walks_to h m p r next own xs x.1 (subst (λ s. NotAmong s xs) start l.apart) (subst (λ start'. LeadsThrough m.rooms own (Some p) start' xs) link l.rest) batch taken given end,
      )

  pub walks_on : (h : List (Event ℕ E)) (m : Machine E) (p r : ℕ) (e : E) (next : Option ℕ)
      → (was : CoreMeets h m) → (w : HasBatchLeft h m.rooms was.own p r) → slice_get m.rooms r ≡ Some (room_in_use e next)
      → (was.own r ≡ Some p) × AtStage h m.head (change (as_free_room p) r m.rooms) was.own p (stage_after_walk next)
  walks_on h m p r e next was w got = walks_at h m p r e next was.own w.rest w.links w.batch w.taken w.given w.end got

  pub keeps_walk : (h : List (Event ℕ E)) (m : Machine E) (p r : ℕ) (e : E) (next : Option ℕ) → CoreMeets h m
      → slice_get m.parties p ≡ Some (Walking r) → slice_get m.rooms r ≡ Some (room_in_use e next)
      → CoreMeets h record { head = m.head; rooms = change (as_free_room p) r m.rooms; parties = set m.parties p (stage_after_walk next) }
  keeps_walk h m p r e next was at got =
      let on = walks_on h m p r e next was (was.parties p (Walking r) at) got in
      own_room h m p r (as_free_room p) (Walking r) (stage_after_walk next) was at on.0 on.1
