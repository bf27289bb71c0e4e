-- The steps of a party that enqueues keep what a machine meets.
use Rattle.std.proofs.Common.{◌≡◌, ℕ, suc, ◌≢◌, List, [], ◌∷◌, ◌++◌, map, length, Option, Some, None, refl, sym, ap, ◌∙◌, subst, inl, inr, arith}
use native.Mathlib.Decide.{ℕ_discrete}
use Rattle.std.proofs.lemmas.List.{map-append}
use Rattle.cordyceps_queue.specs.History.{Event}
use Rattle.cordyceps_queue.specs.Past.{held_reversed, holder_reversed, IsPendingAt, HasLooked, WasBlockedReversed}
use Rattle.cordyceps_queue.specs.declared.cores.stage.Stage.TheVariants.{Rest, Cleared, Swapped}
use Rattle.cordyceps_queue.specs.Cores.Abstract.{update, AbstractParty, AbstractMachine, clear_room, swap_head, link_next}
use Rattle.cordyceps_shared.specs.Places.{ItemAt}
use Rattle.cordyceps_queue.specs.Cores.Meets.{real, rank, Owner, Shared, Spare, Ready, Pooled, Unmade, Owes, tail_of}
use Rattle.cordyceps_queue.specs.Cores.Meets.{Chain, OwnsRooms, Joined, HasOpen, AtStage}
use Rattle.cordyceps_queue.specs.Cores.Meets.{RightIs, Meets}
use Rattle.cordyceps_shared.proofs.Places.{at_end}
use Rattle.cordyceps_queue.proofs.CoreTheory.Basics.{owner_else, owns_else, suc_inj, open_with, ready_with, some_inj, some_none, suc_zero, put_same}
use Rattle.cordyceps_queue.proofs.CoreTheory.Basics.{put_other, put_none, at_one, at_within, at_more, at_split}
use Rattle.cordyceps_queue.proofs.CoreTheory.Basics.{rank_more, rank_all, real_more, map_put, pending_one, open_from}
use Rattle.cordyceps_queue.proofs.CoreTheory.ChainGrows.{real_one, held_length, alone, open_more, last_more, once_more, joined_more, right_more, right_same}
use Rattle.cordyceps_queue.proofs.CoreTheory.OtherParties.{GoesOn, bystander, joined_put, right_stays}
use Rattle.cordyceps_queue.proofs.CoreTheory.StepLeaves.{fits_as, chain_dealt, chain_of, joined_on, moves_on, parties, right_else, rooms_on, rooms_still}

pub spare_shared : {o : Owner} {k : ℕ} → o ≡ Spare k → o ≡ Shared → ⊥
spare_shared a b = cc (a, b)

-- a free room has one owner
pub spare_one : {o : Owner} {j k : ℕ} → o ≡ Spare j → o ≡ Spare k → j ≡ k
spare_one a b = cc (a, b)

pub ready_shared : {o : Owner} {k : ℕ} → o ≡ Ready k → o ≡ Shared → ⊥
ready_shared a b = cc (a, b)

pub ready_spare : {o : Owner} {j k : ℕ} → o ≡ Ready j → o ≡ Spare k → ⊥
ready_spare a b = cc (a, b)

pub spare_pooled : {o : Owner} {k : ℕ} → o ≡ Spare k → o ≡ Pooled → ⊥
spare_pooled a b = cc (a, b)

pub ready_pooled : {o : Owner} {k : ℕ} → o ≡ Ready k → o ≡ Pooled → ⊥
ready_pooled a b = cc (a, b)

pub shared_pooled : {o : Owner} → o ≡ Shared → o ≡ Pooled → ⊥
shared_pooled a b = cc (a, b)

pub unmade_pooled : {o : Owner} → o ≡ Unmade → o ≡ Pooled → ⊥
unmade_pooled a b = cc (a, b)

pub spare_unmade : {o : Owner} {k : ℕ} → o ≡ Spare k → o ≡ Unmade → ⊥
spare_unmade a b = cc (a, b)

pub ready_unmade : {o : Owner} {k : ℕ} → o ≡ Ready k → o ≡ Unmade → ⊥
ready_unmade a b = cc (a, b)

pub shared_unmade : {o : Owner} → o ≡ Shared → o ≡ Unmade → ⊥
shared_unmade a b = cc (a, b)

ready_one : {o : Owner} {j k : ℕ} → o ≡ Ready j → o ≡ Ready k → j ≡ k
ready_one a b = cc (a, b)

module _ {P E : Type 0} (m : AbstractMachine P E) (c : Chain) (h : List (Event P E)) (M : Meets m c h) (k : ℕ) (p : AbstractParty P) (at : m.party k ≡ Some p) where
  -- Clear with an element
  module _ (rest : p.stage ≡ Rest) (r : ℕ) (rooms : List ℕ) (spare : p.spare ≡ r ∷ rooms) (e : E) where
    abbrev pub chain_after_clear : Chain
    chain_after_clear = record c { owner = update c.owner r (Ready k) }

    own : OwnsRooms c.owner k (r ∷ rooms)
    own = subst (OwnsRooms c.owner k) spare (M.rooms k p at)

    mine : c.owner r ≡ Spare k
    mine = own.own 0 r refl

    away : (x : ℕ) → c.owner x ≡ Shared → x ≢ r
    away x s e = spare_shared mine (ap c.owner (sym e) ∙ s)

    spares : (j : ℕ) (s : List ℕ) → ((i : ℕ) → ItemAt s i r → ⊥) → OwnsRooms c.owner j s → OwnsRooms (update c.owner r (Ready k)) j s
    spares j s not R = record { own = λ i y a. put_other c.owner r (Ready k) y (λ e. not i (subst (ItemAt s i) e a)) ∙ R.own i y a; once = R.once }

    pub clear_keeps : Meets (clear_room m k p r rooms e) chain_after_clear h
    clear_keeps = moves_on m c h M k p at (Cleared r) rooms (clear_room m k p r rooms e) chain_after_clear h record {
      legal = M.legal;
      chain = chain_dealt m c h M m.count (update c.owner r (Ready k))
          (λ x s. owner_else c.owner r (Ready k) s (spare_shared mine))
          (λ x lt. owner_else c.owner r (Ready k) (M.unmade x lt) (spare_unmade mine));
      ends = put_none m.next r m.head M.ends;
      joined = λ i a b ia. joined_on m c h M k p at (Cleared r) rooms (update m.next r None) (λ a b o. subst (λ l. Owes l a b) rest o) i a b
          (put_other m.next r None a (away a (M.shared i a ia))) ia;
      holds = map_put m.cell r (Some e) c.rooms (λ i ir. away r (M.shared i r ir) refl) ∙ M.holds;
      right = right_else m c h M k p at (Cleared r) rooms (ap tail_of rest);
      goes = λ j q _ _. record {
        settled = λ s. s;
        ready = λ x f.
            let apart : x ≢ r = λ s. ready_spare f.ready (ap c.owner s ∙ mine) in
            ready_with f f.settled (put_other c.owner r (Ready k) x apart ∙ f.ready) (put_none m.next r x f.null)
            (put_other m.cell r (Some e) x apart ∙ f.full);
        opened = λ x old f. open_with f (put_none m.next r old f.null) f.pending;
        right = λ _. right_stays refl (λ l. l) (λ b. b) (λ _. put_none m.next r 0) (λ _ old _ _. put_none m.next r old);
      };
      mine = record {
        settled = fits_as m c h M k p at rest;
        ready = put_same c.owner r (Ready k);
        is_real = λ e. away 0 M.stub (sym e);
        null = put_same m.next r None;
        element = e;
        full = put_same m.cell r (Some e);
      };
      rooms = rooms_on m c h M k p at (Cleared r) rooms (update c.owner r (Ready k))
          (λ j free ne R. spares j free (λ i ir. ne (spare_one (R.own i r ir) mine)) R)
          (spares k rooms (λ i ir. suc_zero (own.once (suc i) 0 r ir refl)) (record { own = λ i x ix. own.own (suc i) x ix; once = λ i j x ix jx. suc_inj (own.once (suc i) (suc j) x ix jx) }));
      strangers = λ n _ s. s;
    }

  -- Swap of an element
  module _ (r : ℕ) (e : E) (ready : p.stage ≡ Cleared r) (full : m.cell r ≡ Some e) where
    abbrev pub chain_after_swap : Chain
    chain_after_swap = record c { rooms = c.rooms ++ r ∷ []; owner = update c.owner r Shared }

    pub was : AtStage m.head m.next m.cell c.owner c.keeper c.rooms h k p.name (Cleared r)
    was = fits_as m c h M k p at ready

    other_room : (x : ℕ) → c.owner x ≡ Shared → x ≢ r
    other_room x s e = ready_shared was.ready (ap c.owner (sym e) ∙ s)

    pub fresh : (i : ℕ) → ItemAt c.rooms i r → ⊥
    fresh i ir = ready_shared was.ready (M.shared i r ir)

    newly : (q : P) (t : ℕ) → ItemAt c.rooms 0 t → HasLooked q h → ((m.head ≢ t) → WasBlockedReversed q h) → WasBlockedReversed q (Event.Swap p.name e ∷ h)
    newly q t first looked before = elim (ℕ_discrete m.head t) [
      | yes same ↦ inl (looked, (p.name, length (held_reversed h), alone m c h M t first same, inl (refl, refl)))
      | no ne ↦ inr (tt, before ne)
    ]

    swap_goes : (j : ℕ) (q : P) → j ≢ k → q ≢ p.name → GoesOn m (swap_head m k p r (Swapped r m.head)) c chain_after_swap h (Event.Swap p.name e ∷ h) j q
    swap_goes j q nj ne = record {
      settled = λ s. (ne, s);
      ready = λ x f.
          let apart : x ≢ r = λ s. nj (ready_one f.ready (ap c.owner s ∙ was.ready)) in
          ready_with f (ne, f.settled) (put_other c.owner r Shared x apart ∙ f.ready) f.null f.full;
      opened = λ x old f. open_more c.rooms r f (inr (ne, f.pending));
      right = λ _. record {
        keeper_is = refl;
        holder_is = refl;
        place = at_more c.rooms (r ∷ []);
        looked = λ l. l;
        blocked = λ t first looked before _. newly q t first looked before;
        far = λ t first _ s. fresh 0 (subst (ItemAt c.rooms 0) (sym s) first);
        out = λ out i at0. elim (at_split c.rooms r i 0 at0) [ inl a ↦ out i a | inr a ↦ was.is_real (sym a.1) ];
        stub = λ _ n. n;
        before_stub = λ _ _ _ _ n. n;
      };
    }

    swap_mine : AtStage r m.next m.cell (update c.owner r Shared) c.keeper (c.rooms ++ r ∷ []) (Event.Swap p.name e ∷ h) k p.name (Swapped r m.head)
    swap_mine = record {
      at = M.last.at;
      old_at = at_more c.rooms (r ∷ []) M.last.at m.head M.last.head_at;
      room_at = subst (λ i. ItemAt (c.rooms ++ r ∷ []) i r) M.last.long (at_end c.rooms r);
      is_real = was.is_real;
      null = M.ends;
      pending =
          let more = rank_more c.rooms (r ∷ []) (length c.rooms) (omega arith) in
          inl (refl, ap (rank (c.rooms ++ r ∷ [])) (sym M.last.long) ∙ more ∙ rank_all c.rooms ∙ held_length m c h M);
    }

    pub swap_keeps : Meets (swap_head m k p r (Swapped r m.head)) chain_after_swap (Event.Swap p.name e ∷ h)
    swap_keeps = moves_on m c h M k p at (Swapped r m.head) p.spare (swap_head m k p r (Swapped r m.head)) chain_after_swap (Event.Swap p.name e ∷ h) record {
      legal = (was.settled, M.legal);
      chain = record {
        last = last_more m c h M r;
        once = once_more m c h M r fresh;
        shared = λ i x ix. elim (at_split c.rooms r i x ix) [
          | inl a ↦ put_other c.owner r Shared x (other_room x (M.shared i x a)) ∙ M.shared i x a
          | inr a ↦ ap (update c.owner r Shared) a.1 ∙ put_same c.owner r Shared
        ];
        stub = put_other c.owner r Shared 0 (other_room 0 M.stub) ∙ M.stub;
        unmade = λ x lt. owner_else c.owner r Shared (M.unmade x lt) (ready_unmade was.ready);
      };
      ends = was.null;
      joined = joined_more m c h M k p (record p { stage = Swapped r m.head }) at r (λ a b o. absurd (subst (λ l. Owes l a b) ready o)) (refl, refl);
      holds = ap (map m.cell) (real_more c.rooms (r ∷ []) ∙ ap (λ l. real c.rooms ++ l) (real_one r was.is_real))
          ∙ map-append m.cell (real c.rooms) (r ∷ [])
          ∙ ap (λ l. l ++ m.cell r ∷ []) M.holds ∙ ap (λ x. map Some (held_reversed h) ++ x ∷ []) full ∙ sym (map-append Some (held_reversed h) (e ∷ []));
      right = right_more m.right _ c.rooms r h (Event.Swap p.name e) c.keeper refl (right_else m c h M k p at (Swapped r m.head) p.spare (ap tail_of ready));
      goes = swap_goes;
      mine = swap_mine;
      rooms = rooms_on m c h M k p at (Swapped r m.head) p.spare (update c.owner r Shared) (λ j free _ R. owns_else c.owner r Shared j free R (ready_spare was.ready))
          (owns_else c.owner r Shared k p.spare (M.rooms k p at) (ready_spare was.ready));
      strangers = λ n ne s. (ne, s);
    }

  -- Link of an element
  module _ (r old : ℕ) (waits : p.stage ≡ Swapped r old) where
    link : HasOpen m.next c.rooms h p.name r old
    link = fits_as m c h M k p at waits

    old_shared : c.owner old ≡ Shared
    old_shared = M.shared link.at old link.old_at

    -- a room at another place is not the old head
    not_old : (j a : ℕ) → ItemAt c.rooms j a → j ≢ link.at → a ≢ old
    not_old j a ja ne same = ne (M.once j link.at old (subst (ItemAt c.rooms j) same ja) link.old_at)

    stays_none : (a : ℕ) → a ≢ old → m.next a ≡ None → update m.next old (Some r) a ≡ None
    stays_none a ne none = put_other m.next old (Some r) a ne ∙ none

    link_goes : (j : ℕ) (q : P) → q ≢ p.name → GoesOn m (link_next m k p old r Rest) c c h (Event.Link p.name ∷ h) j q
    link_goes j q ne = record {
      settled = inr;
      ready = λ x f.
          let apart : x ≢ old = λ s. ready_shared f.ready (ap c.owner s ∙ old_shared) in
          ready_with f (inr f.settled) f.ready (stays_none x apart f.null) f.full;
      opened = λ x o f.
          let apart : f.at ≢ link.at = λ s.
          let mine = subst (λ n. IsPendingAt p.name (rank c.rooms (suc n)) h) (sym s) link.pending in
          ne (pending_one h q p.name (rank c.rooms (suc f.at)) f.pending mine) in
          open_with f (stays_none o (not_old f.at o f.old_at apart) f.null) (ne, f.pending);
      right = λ _. right_stays refl (λ l. l) (λ w. inr (tt, w))
          (λ out. stays_none 0 (λ s. out link.at (subst (ItemAt c.rooms link.at) (sym s) link.old_at)))
          (λ i o here stub.
          let apart : i ≢ link.at = λ s.
          let there = subst (λ n. ItemAt c.rooms (suc n) 0) s stub in
          link.is_real (at_one c.rooms (suc link.at) r 0 link.room_at there) in
          stays_none o (not_old i o here apart));
    }

    link_joined : (i a b : ℕ) → ItemAt c.rooms i a → ItemAt c.rooms (suc i) b → Joined (update m.next old (Some r)) (parties m c h M k p at Rest p.spare) a b
    link_joined i a b ia ib = elim (ℕ_discrete i link.at) [
      | yes same ↦
          let ea : a ≡ old = at_one c.rooms link.at a old (subst (λ n. ItemAt c.rooms n a) same ia) link.old_at in
          let eb : b ≡ r = at_one c.rooms (suc link.at) b r (subst (λ n. ItemAt c.rooms (suc n) b) same ib) link.room_at
          in
          inl (ap (update m.next old (Some r)) ea ∙ put_same m.next old (Some r) ∙ ap Some (sym eb))
      | no ne ↦
          let apart = not_old i a ia ne in
          joined_put m.party k p (record p { stage = Rest }) at m.next (update m.next old (Some r)) a b (put_other m.next old (Some r) a apart)
          (λ o. absurd (apart (subst (λ l. Owes l a b) waits o).0)) (M.joined i a b ia ib)
    ]

    pub link_keeps : Meets (link_next m k p old r Rest) c (Event.Link p.name ∷ h)
    link_keeps = moves_on m c h M k p at Rest p.spare (link_next m k p old r Rest) c (Event.Link p.name ∷ h) record {
      legal = (open_from h p.name (rank c.rooms (suc link.at)) link.pending, M.legal);
      chain = chain_of m c h M;
      ends = stays_none m.head (not_old M.last.at m.head M.last.head_at
          (let l = at_within c.rooms (suc link.at) r link.room_at in λ s. absurd (omega (arith, M.last.long)))) M.ends;
      joined = link_joined;
      holds = M.holds;
      right = right_same m.right _ c.rooms h (Event.Link p.name) c.keeper refl (right_else m c h M k p at Rest p.spare (ap tail_of waits));
      goes = λ j q _ ne. link_goes j q ne;
      mine = inl refl;
      rooms = rooms_still m c h M k p at Rest p.spare (M.rooms k p at);
      strangers = λ n _. inr;
    }

  -- Take beside another holder
  busy_goes : (j : ℕ) (q : P) → GoesOn m m c c h (Event.Busy p.name ∷ h) j q
  busy_goes j q = record {
    settled = λ s. s;
    ready = λ x f. ready_with f f.settled f.ready f.null f.full;
    opened = λ x o f. open_with f f.null f.pending;
    right = λ _. right_stays refl (λ l. l) (λ w. inr (tt, w)) (λ _ n. n) (λ _ _ _ _ n. n);
  }

  -- the right is out with another party
  out_with : p.stage ≡ Rest → m.right ≡ 0 → (keeper : Option ℕ) → RightIs m.right m.party c.rooms h keeper → (q : P) × (holder_reversed h ≡ Some q) × (p.name ≢ q)
  out_with rest taken None R = absurd (suc_zero (sym R.right_is ∙ taken))
  out_with rest taken (Some j) R = (
    R.by.name,
    R.held,
    λ same.
        let e : j ≡ k = M.names j k R.by p R.there at (sym same) in
        let f : R.by ≡ p = some_inj (sym R.there ∙ ap m.party e ∙ at) in
        some_none (sym R.has ∙ ap (λ (x : AbstractParty P). tail_of x.stage) f ∙ ap tail_of rest),
  )

  pub busy_keeps : p.stage ≡ Rest → m.right ≡ 0 → Meets m c (Event.Busy p.name ∷ h)
  busy_keeps rest taken = record {
    legal = (out_with rest taken c.keeper M.right, M.legal);
    last = M.last;
    ends = M.ends;
    joined = M.joined;
    once = M.once;
    shared = M.shared;
    stub = M.stub;
    unmade = M.unmade;
    holds = M.holds;
    right = right_same m.right m.party c.rooms h (Event.Busy p.name) c.keeper refl M.right;
    fits = λ j q eq. bystander (busy_goes j q.name) q.stage (M.fits j q eq);
    rooms = M.rooms;
    names = M.names;
    strangers = M.strangers;
  }

  -- Ring and Clear
  rings_goes : (j : ℕ) (q : P) → GoesOn m m c c h (Event.Ring p.name ∷ h) j q
  rings_goes j q = record {
    settled = λ s. s;
    ready = λ x f. ready_with f f.settled f.ready f.null f.full;
    opened = λ x o f. open_with f f.null f.pending;
    right = λ _. right_stays refl (λ l. l) (λ w. inr (tt, w)) (λ _ n. n) (λ _ _ _ _ n. n);
  }

  pub rings_keeps : p.stage ≡ Rest → Meets m c (Event.Ring p.name ∷ h)
  rings_keeps rest = record {
    legal = (fits_as m c h M k p at rest, M.legal);
    last = M.last;
    ends = M.ends;
    joined = M.joined;
    once = M.once;
    shared = M.shared;
    stub = M.stub;
    unmade = M.unmade;
    holds = M.holds;
    right = right_same m.right m.party c.rooms h (Event.Ring p.name) c.keeper refl M.right;
    fits = λ j q eq. bystander (rings_goes j q.name) q.stage (M.fits j q eq);
    rooms = M.rooms;
    names = M.names;
    strangers = M.strangers;
  }

  clears_bell_goes : (j : ℕ) (q : P) → GoesOn m m c c h (Event.Clear p.name ∷ h) j q
  clears_bell_goes j q = record {
    settled = λ s. s;
    ready = λ x f. ready_with f f.settled f.ready f.null f.full;
    opened = λ x o f. open_with f f.null f.pending;
    right = λ _. right_stays refl (λ l. l) (λ w. inr (tt, w)) (λ _ n. n) (λ _ _ _ _ n. n);
  }

  pub clears_bell_keeps : Meets m c (Event.Clear p.name ∷ h)
  clears_bell_keeps = record {
    legal = (tt, M.legal);
    last = M.last;
    ends = M.ends;
    joined = M.joined;
    once = M.once;
    shared = M.shared;
    stub = M.stub;
    unmade = M.unmade;
    holds = M.holds;
    right = right_same m.right m.party c.rooms h (Event.Clear p.name) c.keeper refl M.right;
    fits = λ j q eq. bystander (clears_bell_goes j q.name) q.stage (M.fits j q eq);
    rooms = M.rooms;
    names = M.names;
    strangers = M.strangers;
  }
