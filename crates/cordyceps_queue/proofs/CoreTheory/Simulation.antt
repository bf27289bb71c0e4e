-- What a core's step does to its plain machine is what a step does to the machine's functions.
use Rattle.std.proofs.Common.{◌≡◌, ◌≢◌, ℕ, zero, suc, ◌+◌, ◌<◌, ◌≤◌, ◌⊎◌, Bool, true, false, List, [], ◌∷◌, length, reverse, refl, ap, sym, ◌∙◌, subst, arith, inl, inr, eq-eqb}
use Rattle.std.specs.Prelude.{Option, Some, None, slice_get, slice_set, nat_eq, Ok}
use Rattle.std.specs.Option.{option_eq}
use Rattle.std.proofs.lemmas.Bool.{cases_lt}
use mathlib.Core.Path.{fun_ext}
use native.Mathlib.Decide.{ℕ_discrete}
use Rattle.cordyceps_queue.specs.declared.cores.stage.Stage.{Stage}
use Rattle.cordyceps_queue.specs.declared.cores.stage.Stage.TheVariants.{Rest, Cleared, Swapped, Holding, StubNull, Second, Null, PutClear, PutSwap, PutLink, PutRead}
use Rattle.cordyceps_shared.specs.declared.room.Room.{Room}
use Rattle.cordyceps_queue.specs.declared.cores.steps.QueueStep.{QueueStep}
use Rattle.cordyceps_queue.specs.declared.cores.steps.QueueStep.TheVariants as step
use Rattle.cordyceps_queue.specs.declared.cores.steps.QueueAnswer.TheVariants as answer
use Rattle.cordyceps_queue.specs.History.{Event}
use Rattle.cordyceps_queue.specs.Cores.Machine as core
use Rattle.cordyceps_shared.specs.Rooms.{change, with_link, as_free_room, next_in, element_in, is_free_for}
use Rattle.cordyceps_queue.specs.Cores.Machine.{Machine, Outcome, with_element, free_rooms, refusal, events_of}
use Rattle.cordyceps_queue.specs.Cores.Abstract as words
use Rattle.cordyceps_queue.specs.Cores.Abstract.{AbstractParty, AbstractMachine, Move, update, insert_room}
use Rattle.cordyceps_shared.specs.Places.{ItemAt}
use Rattle.cordyceps_queue.specs.Cores.Meets.{tail_of, Shared, Unmade, Chain, AtStage, Meets}
use Rattle.cordyceps_queue.specs.Cores.CoreMeets.{right_word, party_at, abstract_of, IsOwned}
use Rattle.cordyceps_queue.proofs.CoreTheory.Basics.{some_inj, none_some, put_same, put_other}
use Rattle.cordyceps_queue.proofs.CoreTheory.ProducerSteps.{spare_shared, shared_unmade}
use Rattle.cordyceps_queue.proofs.CoreTheory.HolderSteps.{keeping}
use Rattle.cordyceps_queue.proofs.CoreTheory.FreeRooms.{free_same, free_first, free_has, free_more}
use Rattle.cordyceps_shared.proofs.Choices.{option_same}
use Rattle.cordyceps_shared.proofs.ListWrites.{slice_get-set_same, slice_get-set_other, length-change}
use Rattle.cordyceps_queue.proofs.CoreTheory.ListWrites.{get_within, none_before, read, read_changed, read_same}

-- another party's room is not free for k
pub others_room : (k p : ℕ) → k ≢ p → option_eq nat_eq (Some p) (Some k) ≡ false
others_room k p ne = from (option_eq nat_eq (Some p) (Some k)) refl
  where
    from : (b : Bool) → option_eq nat_eq (Some p) (Some k) ≡ b → b ≡ false
    from true e = absurd (ne (sym (some_inj (option_same (Some p) (Some k) e))))
    from false e = refl

pub own_room : (p : ℕ) → option_eq nat_eq (Some p) (Some p) ≡ true
own_room p = eq-eqb p p refl

module _ {E : Type 0} where
  party_same : (rooms rooms' : List (Room E)) (k : ℕ) (o : Option Stage) → free_rooms k rooms' ≡ free_rooms k rooms → party_at rooms' k o ≡ party_at rooms k o
  party_same rooms rooms' k None e = refl
  party_same rooms rooms' k (Some stage) e = ap (λ free. Some (record { name = k; stage = stage; spare = free })) e

  abbrev pub parties_of : List (Room E) → List Stage → ℕ → Option (AbstractParty ℕ)
  parties_of rooms parties k = party_at rooms k (slice_get parties k)

  -- one party moved, and no other's free rooms changed
  pub parties_put : (rooms rooms' : List (Room E)) (parties : List Stage) (p : ℕ) (old new : Stage) (free : List ℕ) → slice_get parties p ≡ Some old → free_rooms p rooms' ≡ free →
      ((k : ℕ) → k ≢ p → free_rooms k rooms' ≡ free_rooms k rooms) → parties_of rooms' (slice_set parties p new) ≡ update (parties_of rooms parties) p (Some (record { name = p; stage = new; spare = free }))
  parties_put rooms rooms' parties p old new free at mine others = fun_ext (λ j. elim (ℕ_discrete j p) [
    | yes same ↦ subst (λ i. parties_of rooms' (slice_set parties p new) i ≡ update (parties_of rooms parties) p now i) (sym same)
        (ap (party_at rooms' p) (slice_get-set_same parties p new old at) ∙ ap (λ free. Some (record { name = p; stage = new; spare = free })) mine ∙ sym (put_same (parties_of rooms parties) p now))
    | no ne ↦ ap (party_at rooms' j) (slice_get-set_other parties p j new ne) ∙ party_same rooms rooms' j (slice_get parties j) (others j ne) ∙ sym (put_other (parties_of rooms parties) p now j ne)
  ])
    where
      now : Option (AbstractParty ℕ)
      now = Some (record { name = p; stage = new; spare = free })

  pub words_eq : (head right : ℕ) (count count' : ℕ) (next next' : ℕ → Option ℕ) (cell cell' : ℕ → Option E) (party party' : ℕ → Option (AbstractParty ℕ)) → count ≡ count' → next ≡ next' → cell ≡ cell' → party ≡ party' →
      let old : AbstractMachine ℕ E = record { head = head; right = right; count = count; next = next; cell = cell; party = party } in
      let new : AbstractMachine ℕ E = record { head = head; right = right; count = count'; next = next'; cell = cell'; party = party' } in
      old ≡ new
  words_eq head right count count' next next' cell cell' party party' a b c d i = record { head = head; right = right; count = a i; next = b i; cell = c i; party = d i }

  -- the outcome is that of the move, with its events
  abbrev pub Follows : Machine E → ℕ → Stage → QueueStep E → Option (Move ℕ E) → Outcome E → Type 0
  Follows m p stage s None out = out ≡ refusal m s
  Follows m p stage s (Some v) out = (abstract_of out.0 ≡ v.after) × (out.1 ≡ Ok v.answer) × (events_of p m.rooms (Some stage) s out.1 ≡ reverse v.events) × IsOwned out.0

  abbrev pub me_of : Machine E → ℕ → Stage → AbstractParty ℕ
  me_of m p stage = record { name = p; stage = stage; spare = free_rooms p m.rooms }

  module _ (m : Machine E) (p : ℕ) (stage : Stage) (at : slice_get m.parties p ≡ Some stage) (owned : IsOwned m) where
    abbrev me : AbstractParty ℕ
    me = me_of m p stage

    -- after the party moved
    owned_by : (head : ℕ) (right : Option ℕ) (rooms : List (Room E)) (new : Stage) → ((k : ℕ) → k ≢ p → free_rooms k rooms ≡ free_rooms k m.rooms) → IsOwned (record { head = head; right = right; rooms = rooms; parties = slice_set m.parties p new })
    owned_by head right rooms new same k n = let w = none_before m.parties p k new stage at n in same k w.0 ∙ owned k w.1

    -- the rooms stay
    stays : (head : ℕ) (right : Option ℕ) (new : Stage) →
        (abstract_of (record { head = head; right = right; rooms = m.rooms; parties = slice_set m.parties p new }) ≡ record (words.set_stage (abstract_of m) p me new) { head = head; right = right_word right })
        × IsOwned (record { head = head; right = right; rooms = m.rooms; parties = slice_set m.parties p new })
    stays head right new = (
      words_eq head (right_word right) (length m.rooms) (length m.rooms) (read next_in m.rooms) (read next_in m.rooms) (read element_in m.rooms) (read element_in m.rooms) _ _ refl refl refl
          (parties_put m.rooms m.rooms m.parties p stage new (free_rooms p m.rooms) at refl (λ k ne. refl)),
      owned_by head right m.rooms new (λ k ne. refl),
    )

    -- a room is linked
    links : (at_room : ℕ) (room : Room E) (next : Option ℕ) (new : Stage) → slice_get m.rooms at_room ≡ Some room →
        let after : Machine E = record { head = m.head; right = m.right; rooms = change (with_link next) at_room m.rooms; parties = slice_set m.parties p new } in
        (abstract_of after ≡ record (words.set_stage (abstract_of m) p me new) { next = update (read next_in m.rooms) at_room next }) × IsOwned after
    links at_room room next new there =
        let same : (k : ℕ) → free_rooms k (change (with_link next) at_room m.rooms) ≡ free_rooms k m.rooms = λ k. free_same k (with_link next) m.rooms 0 at_room (λ y e. refl) in (
          words_eq m.head (right_word m.right) (length (change (with_link next) at_room m.rooms)) (length m.rooms) (read next_in (change (with_link next) at_room m.rooms)) (update (read next_in m.rooms) at_room next)
              (read element_in (change (with_link next) at_room m.rooms)) (read element_in m.rooms) _ _
              (length-change (with_link next) at_room m.rooms) (read_changed next_in (with_link next) m.rooms at_room room there) (read_same element_in (with_link next) m.rooms at_room (λ y. refl))
              (parties_put m.rooms (change (with_link next) at_room m.rooms) m.parties p stage new (free_rooms p m.rooms) at (same p) (λ k ne. same k)),
          owned_by m.head m.right (change (with_link next) at_room m.rooms) new (λ k ne. same k),
        )

    -- the least free room gets an element
    holds : (e : E) (r : ℕ) (rest : List ℕ) → free_rooms p m.rooms ≡ r ∷ rest →
        let after : Machine E = record { head = m.head; right = m.right; rooms = change (with_element e) r m.rooms; parties = slice_set m.parties p (Cleared r) } in
        (abstract_of after ≡ words.clear_room (abstract_of m) p me r rest e) × IsOwned after
    holds e r rest free =
        let w = free_first p (with_element e) m.rooms 0 r rest (λ y. refl) free in
        let same : r ≡ w.at = omega (arith, w.is) in
        let there : slice_get m.rooms r ≡ Some w.room = ap (slice_get m.rooms) same ∙ w.there in
        let others : (k : ℕ) → k ≢ p → free_rooms k (change (with_element e) r m.rooms) ≡ free_rooms k m.rooms = λ k ne. free_same k (with_element e) m.rooms 0 r (λ y got. sym (not_mine k ne y (some_inj (sym there ∙ got)) w.free)) in (
          words_eq m.head (right_word m.right) (length (change (with_element e) r m.rooms)) (length m.rooms) (read next_in (change (with_element e) r m.rooms)) (update (read next_in m.rooms) r None)
              (read element_in (change (with_element e) r m.rooms)) (update (read element_in m.rooms) r (Some e)) _ _
              (length-change (with_element e) r m.rooms) (read_changed next_in (with_element e) m.rooms r w.room there) (read_changed element_in (with_element e) m.rooms r w.room there)
              (parties_put m.rooms (change (with_element e) r m.rooms) m.parties p stage (Cleared r) rest at (ap (λ n. free_rooms p (change (with_element e) n m.rooms)) same ∙ w.others) others),
          owned_by m.head m.right (change (with_element e) r m.rooms) (Cleared r) others,
        )
      where
        not_mine : (k : ℕ) → k ≢ p → (y : Room E) {x : Room E} → x ≡ y → is_free_for p x ≡ true → is_free_for k y ≡ false
        not_mine k ne y same free = ap (λ o. option_eq nat_eq o (Some k)) (option_same y.owner (Some p) (subst (λ z. is_free_for p z ≡ true) same free)) ∙ others_room k p ne

    -- the tail's room is the party's
    frees : (t r : ℕ) (room : Room E) → slice_get m.rooms t ≡ Some room → ((k : ℕ) → is_free_for k room ≡ false) →
        let after : Machine E = record { head = m.head; right = m.right; rooms = change (as_free_room p) t m.rooms; parties = slice_set m.parties p (Holding r) } in
        (abstract_of after ≡ words.hand_out (abstract_of m) p me t r) × IsOwned after
    frees t r room there used =
        let here : t + 0 ≡ t = omega arith in
        let mine : free_rooms p (change (as_free_room p) t m.rooms) ≡ insert_room t (free_rooms p m.rooms) = free_more p (as_free_room p) m.rooms 0 t room there (used p) (own_room p) ∙ ap (λ n. insert_room n (free_rooms p m.rooms)) here in
        let others : (k : ℕ) → k ≢ p → free_rooms k (change (as_free_room p) t m.rooms) ≡ free_rooms k m.rooms = λ k ne. free_same k (as_free_room p) m.rooms 0 t (λ y got. others_room k p ne ∙ sym (used k) ∙ ap (is_free_for k) (some_inj (sym there ∙ got))) in (
          words_eq m.head (right_word m.right) (length (change (as_free_room p) t m.rooms)) (length m.rooms) (read next_in (change (as_free_room p) t m.rooms)) (read next_in m.rooms)
              (read element_in (change (as_free_room p) t m.rooms)) (update (read element_in m.rooms) t None) _ _
              (length-change (as_free_room p) t m.rooms) (read_same next_in (as_free_room p) m.rooms t (λ y. refl)) (read_changed element_in (as_free_room p) m.rooms t room there)
              (parties_put m.rooms (change (as_free_room p) t m.rooms) m.parties p stage (Holding r) (insert_room t (free_rooms p m.rooms)) at mine others),
          owned_by m.head m.right (change (as_free_room p) t m.rooms) (Holding r) others,
        )

    module _ (c : Chain) (h : List (Event ℕ E)) (M : Meets (abstract_of m) c h) where
      -- a room that is made has its place
      made : (r : ℕ) → (c.owner r ≡ Unmade → ⊥) → (room : Room E) × (slice_get m.rooms r ≡ Some room)
      made r not = from (cases_lt r (length m.rooms))
        where
          from : (r < length m.rooms) ⊎ (length m.rooms ≤ r) → (room : Room E) × (slice_get m.rooms r ≡ Some room)
          from (inl lt) = get_within m.rooms r lt
          from (inr le) = absurd (not (M.unmade r le))

      -- a room of the chain is nobody's free one
      in_use : (r : ℕ) (room : Room E) → c.owner r ≡ Shared → slice_get m.rooms r ≡ Some room → (k : ℕ) → is_free_for k room ≡ false
      in_use r room shared there k = from (is_free_for k room) refl
        where
          spare : (n : ℕ) → ItemAt (free_rooms k m.rooms) n (r + 0) → (o : Option Stage) → slice_get m.parties k ≡ o → ⊥
          spare n is None got = subst (λ xs. ItemAt xs n (r + 0)) (owned k got) is
          spare n is (Some l) got =
              let here : r + 0 ≡ r = omega arith in
              spare_shared ((M.rooms k _ (ap (party_at m.rooms k) got)).own n r (subst (ItemAt (free_rooms k m.rooms) n) here is)) shared

          from : (b : Bool) → is_free_for k room ≡ b → b ≡ false
          from false e = refl
          from true e = let w = free_has k m.rooms 0 r room there e in absurd (spare w.0 w.1 (slice_get m.parties k) refl)

      pub fits : AtStage m.head (read next_in m.rooms) (read element_in m.rooms) c.owner c.keeper c.rooms h p p stage
      fits = M.fits p me (ap (party_at m.rooms p) at)

      -- where the tail's next word was read, and a room was
      out_follows : (t r : ℕ) (before : List (Event ℕ E)) → c.owner t ≡ Shared → ((e : E) → events_of p m.rooms (Some stage) step.ReadNext (Ok (answer.Out e)) ≡ reverse (Event.Out p e ∷ before)) →
          (o : Option (Room E)) → slice_get m.rooms t ≡ o → (e : Option E) → element_in o ≡ e → Follows m p stage step.ReadNext (words.gives_out (abstract_of m) p me t r e before) (core.hand_out m p t r e)
      out_follows t r before shared tells o there None full = refl
      out_follows t r before shared tells None there (Some e) full = absurd (none_some full)
      out_follows t r before shared tells (Some room) there (Some e) full = let w = frees t r room there (in_use t room shared there) in (w.0, refl, tells e, w.1)

      read_follows : (t : ℕ) (before : List (Event ℕ E)) → c.owner t ≡ Shared → ((e : E) → events_of p m.rooms (Some stage) step.ReadNext (Ok (answer.Out e)) ≡ reverse (Event.Out p e ∷ before)) → events_of p m.rooms (Some stage) step.ReadNext (Ok answer.Done) ≡ reverse before →
          (n : Option ℕ) → Follows m p stage step.ReadNext (words.reads (abstract_of m) p me t n before) (core.read m p t n)
      read_follows t before shared tells told None = let w = stays m.head m.right (Null t) in (w.0, refl, told, w.1)
      read_follows t before shared tells told (Some r) = out_follows t r before shared tells (slice_get m.rooms t) refl (element_in (slice_get m.rooms t)) refl

  module _ (m : Machine E) (p : ℕ) (owned : IsOwned m) (c : Chain) (h : List (Event ℕ E)) (M : Meets (abstract_of m) c h) where
    clear_follows : (at : slice_get m.parties p ≡ Some Rest) (e : E) (free : List ℕ) → free_rooms p m.rooms ≡ free → Follows m p Rest (step.Clear (Some e)) (words.clears (abstract_of m) p (me_of m p Rest) free e) (core.clear m p e (core.first_of free))
    clear_follows at e [] is = refl
    clear_follows at e (r ∷ rest) is = let w = holds m p Rest at owned e r rest is in (w.0, refl, refl, w.1)

    take_follows : (at : slice_get m.parties p ≡ Some Rest) (o : Option ℕ) → Follows m p Rest step.Take (words.takes (abstract_of m) p (me_of m p Rest) (right_word o)) (core.take m p o)
    take_follows at None = (refl, refl, refl, owned)
    take_follows at (Some t) = let w = stays m p Rest at owned m.head None (Holding t) in (w.0, refl, refl, w.1)

    swap_follows : (r : ℕ) (at : slice_get m.parties p ≡ Some (Cleared r)) (o : Option E) → element_in (slice_get m.rooms r) ≡ o → Follows m p (Cleared r) step.Swap (words.swaps (abstract_of m) p (me_of m p (Cleared r)) r o) (core.swap m p r (Swapped r m.head))
    swap_follows r at None full = let f = fits m p (Cleared r) at owned c h M in absurd (none_some (sym full ∙ f.full))
    swap_follows r at (Some e) full = let w = stays m p (Cleared r) at owned r m.right (Swapped r m.head) in (w.0, refl, ap (core.comes_in p) full, w.1)

    -- the tail of a party with the right is a room of the chain
    tail_shared : (stage : Stage) (at : slice_get m.parties p ≡ Some stage) (t : ℕ) → tail_of stage ≡ Some t → c.owner t ≡ Shared
    tail_shared stage at t has = M.shared 0 t (keeping (abstract_of m) c h M p (me_of m p stage) (ap (party_at m.rooms p) at) t has).tail

    look_follows : (t : ℕ) (at : slice_get m.parties p ≡ Some (Holding t)) (n : Option ℕ) → next_in (slice_get m.rooms t) ≡ n → Follows m p (Holding t) step.ReadNext (words.looks (abstract_of m) p (me_of m p (Holding t)) t) (core.look m p t (next_in (slice_get m.rooms t)))
    look_follows zero at n is = from (next_in (slice_get m.rooms 0))
      where
        from : (n : Option ℕ) → Follows m p (Holding 0) step.ReadNext (words.reads_stub (abstract_of m) p (me_of m p (Holding 0)) n (Event.Look p ∷ [])) (core.read_stub m p n)
        from None = let w = stays m p (Holding 0) at owned m.head m.right StubNull in (w.0, refl, refl, w.1)
        from (Some r) = let w = stays m p (Holding 0) at owned m.head m.right (Second r) in (w.0, refl, refl, w.1)
    look_follows (suc t) at n is = read_follows m p (Holding (suc t)) at owned c h M (suc t) (Event.Look p ∷ []) (tail_shared (Holding (suc t)) at (suc t) refl) (λ e. refl) refl (next_in (slice_get m.rooms (suc t)))

    head_stub_follows : (at : slice_get m.parties p ≡ Some StubNull) (b : Bool) → Follows m p StubNull step.ReadHead (words.heads_stub (abstract_of m) p (me_of m p StubNull) b) (core.head_stub m p b)
    head_stub_follows at true = let w = stays m p StubNull at owned m.head m.right (Holding 0) in (w.0, refl, refl, w.1)
    head_stub_follows at false = let w = stays m p StubNull at owned m.head m.right (Holding 0) in (w.0, refl, refl, w.1)

    head_tail_follows : (t : ℕ) (at : slice_get m.parties p ≡ Some (Null t)) (b : Bool) → Follows m p (Null t) step.ReadHead (words.heads (abstract_of m) p (me_of m p (Null t)) t b) (core.head_tail m p t b)
    head_tail_follows t at true = let w = stays m p (Null t) at owned m.head m.right (PutClear t) in (w.0, refl, refl, w.1)
    head_tail_follows t at false = let w = stays m p (Null t) at owned m.head m.right (Holding t) in (w.0, refl, refl, w.1)

    read_again_follows : (t : ℕ) (at : slice_get m.parties p ≡ Some (PutRead t)) (n : Option ℕ) → Follows m p (PutRead t) step.ReadNext (words.reads_put (abstract_of m) p (me_of m p (PutRead t)) t n) (core.read_again m p t n)
    read_again_follows t at None = let w = stays m p (PutRead t) at owned m.head m.right (Holding t) in (w.0, refl, refl, w.1)
    read_again_follows t at (Some r) = out_follows m p (PutRead t) at owned c h M t r [] (tail_shared (PutRead t) at t refl) (λ e. refl) (slice_get m.rooms t) refl (element_in (slice_get m.rooms t)) refl

    pub acts_follow : (stage : Stage) → slice_get m.parties p ≡ Some stage → (s : QueueStep E) → Follows m p stage s (words.act (abstract_of m) p (me_of m p stage) stage s) (core.acts m p stage s)
    acts_follow Rest at (step.Clear (Some e)) = clear_follows at e (free_rooms p m.rooms) refl
    acts_follow Rest at step.Take = take_follows at m.right
    acts_follow (Cleared r) at step.Swap = swap_follows r at (element_in (slice_get m.rooms r)) refl
    acts_follow (Swapped r old) at step.Link =
        let f = fits m p (Swapped r old) at owned c h M in
        let there = made m p (Swapped r old) at owned c h M old (λ e. shared_unmade (M.shared f.at old f.old_at) e) in
        let w = links m p (Swapped r old) at owned old there.0 (Some r) Rest there.1 in
        (w.0, refl, refl, w.1)
    acts_follow (Holding t) at step.ReadNext = look_follows t at (next_in (slice_get m.rooms t)) refl
    acts_follow (Holding t) at step.Give = let w = stays m p (Holding t) at owned m.head (Some t) Rest in (w.0, refl, refl, w.1)
    acts_follow StubNull at step.ReadHead = head_stub_follows at (nat_eq m.head 0)
    acts_follow (Second t) at step.ReadNext = read_follows m p (Second t) at owned c h M t [] (tail_shared (Second t) at t refl) (λ e. refl) refl (next_in (slice_get m.rooms t))
    acts_follow (Null t) at step.ReadHead = head_tail_follows t at (nat_eq m.head t)
    acts_follow (PutClear t) at (step.Clear None) =
        let there = made m p (PutClear t) at owned c h M 0 (λ e. shared_unmade M.stub e) in
        let w = links m p (PutClear t) at owned 0 there.0 None (PutSwap t) there.1 in
        (w.0, refl, refl, w.1)
    acts_follow (PutSwap t) at step.Swap = let w = stays m p (PutSwap t) at owned 0 m.right (PutLink t m.head) in (w.0, refl, refl, w.1)
    acts_follow (PutLink t old) at step.Link =
        let f = fits m p (PutLink t old) at owned c h M in
        let there = made m p (PutLink t old) at owned c h M old (λ e. shared_unmade (M.shared f.at old f.old_at) e) in
        let w = links m p (PutLink t old) at owned old there.0 (Some 0) (PutRead t) there.1 in
        (w.0, refl, refl, w.1)
    acts_follow (PutRead t) at step.ReadNext = read_again_follows t at (next_in (slice_get m.rooms t))
    acts_follow _ at s = refl
