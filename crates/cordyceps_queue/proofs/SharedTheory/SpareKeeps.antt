-- A store to the link of a party's last free room, and a read of a free room's link, keep the rule of a queue's table.
use Rattle.std.proofs.Common.{◌≡◌, ◌≢◌, ◌⊎◌, ℕ, ◌+◌, ◌<◌, List, [], ◌∷◌, ◌++◌, length, reverse, set, Option, Some, None, refl, sym, ap, ◌∙◌, subst, arith, length-set}
use mathlib.Core.Option.{some}
use native.Mathlib.Decide.{ℕ_discrete}
use lib.ListN.{get_elem?}
use Rattle.cordyceps_shared.specs.Counts.{times}
use Rattle.cordyceps_shared.specs.FreeChains.{Links}
use Rattle.cordyceps_shared.specs.Histories.{events}
use Rattle.cordyceps_shared.specs.Places.{ItemAt}
use Rattle.cordyceps_shared.specs.Words as word
use Rattle.cordyceps_shared.specs.declared.layout.TheConstants.{LINKS}
use Rattle.cordyceps_shared.proofs.ChangedItems.{one_set}
use Rattle.cordyceps_shared.proofs.FreeLinks.{links_retied}
use Rattle.cordyceps_shared.proofs.Places.{at_end, times_at}
use Rattle.cordyceps_shared.proofs.StepEvents.{at_length, owned_same, fits_same}
use Rattle.cordyceps_shared.proofs.Words.{next_beside_next}
use Rattle.cordyceps_queue.specs.declared.cores.stage.Stage.TheVariants.{Cleared}
use Rattle.cordyceps_queue.specs.History.{Event, actor}
use Rattle.cordyceps_queue.specs.Cores.Meets.{Spare, Shared, Pooled, Owed, Chain, OwnsRooms, Meets}
use Rattle.cordyceps_queue.specs.Cores.Abstract.{AbstractMachine, update}
use Rattle.cordyceps_queue.specs.Shared.Rule.{TableState, link_of, party, party_of, machine_of, AreLinked, PlainHolds}
use Rattle.cordyceps_queue.specs.Shared.View.{View, knows}
use Rattle.cordyceps_queue.proofs.CoreTheory.Basics.{open_with, put_again, ready_with, put_other, at_within, at_more}
use Rattle.cordyceps_queue.proofs.CoreTheory.OtherParties.{GoesOn, bystander, right_stays}
use Rattle.cordyceps_queue.proofs.CoreTheory.ProducerSteps.{spare_shared, spare_pooled, ready_spare, spare_one}
use Rattle.cordyceps_queue.proofs.SharedTheory.WordsAsMachine.{party_spelled, link_spelled, at_after, parties_put, core, party_at, rooms_of, free_spare, empties_same, linked_else, linkeds, linkeds_same, pool_stays, count_same, spent_else, Stays}

-- ---- the link of a free room does not matter to the machine
module _ {P E : Type 0} (m : AbstractMachine P E) (c : Chain) (h : List (Event P E)) (M : Meets m c h) (k r : ℕ) (o : Option ℕ) (mine : c.owner r ≡ Spare k) where
  away : (x : ℕ) → c.owner x ≡ Shared → x ≢ r
  away x shared e = spare_shared mine (ap c.owner (sym e) ∙ shared)

  still : (x : ℕ) → x ≢ r → m.next x ≡ None → update m.next r o x ≡ None
  still x ne e = put_other m.next r o x ne ∙ e

  relink_goes : (j : ℕ) (name : P) → GoesOn m (record m { next = update m.next r o }) c c h h j name
  relink_goes j name = record {
    settled = λ s. s;
    ready = λ x f. ready_with f f.settled f.ready (still x (λ e. ready_spare f.ready (ap c.owner e ∙ mine)) f.null) f.full;
    opened = λ x old f. open_with f (still old (away old (M.shared f.at old f.old_at)) f.null) f.pending;
    right = λ _. right_stays refl (λ l. l) (λ b. b) (λ _. still 0 (away 0 M.stub)) (λ i old a _. still old (away old (M.shared i old a)));
  }

  relink_keeps : Meets (record m { next = update m.next r o }) c h
  relink_keeps = record {
    legal = M.legal;
    last = M.last;
    ends = still m.head (away m.head (M.shared M.last.at m.head M.last.head_at)) M.ends;
    joined = λ i a b ia ib. subst (λ n. (n ≡ Some b) ⊎ ((n ≡ None) × Owed m.party a b)) (sym (put_other m.next r o a (away a (M.shared i a ia)))) (M.joined i a b ia ib);
    once = M.once;
    shared = M.shared;
    stub = M.stub;
    unmade = M.unmade;
    holds = M.holds;
    right = M.right;
    fits = λ j p e. bystander (relink_goes j p.name) p.stage (M.fits j p e);
    rooms = M.rooms;
    names = M.names;
    strangers = M.strangers;
  }

module _ {E : Type 0} (s : TableState E) (k : PlainHolds s) (id : ℕ) (v : View E) (at : get_elem? s.views id ≡ some v) (named : v.known.share ≢ []) where
  -- the last free room's link changes
  ended : (words : List ℕ) (end : ℕ) → let w : View E = record v { end = end } in Meets (machine_of k.cell words (set s.views id w)) k.chain (reverse (events k.history)) → length words ≡ length s.words → AreLinked words (set s.views id w) → ((r : ℕ) → k.chain.owner r ≡ Pooled → word.next words r ≡ word.next s.words r)
      → Stays s k record { words = words; homes = s.homes; views = set s.views id w }
  ended words end meets wide linked links =
      let w : View E = record v { end = end } in
      let was_wide = k.wide in record {
        now = record {
          uses = k.uses;
          history = k.history;
          cell = k.cell;
          chain = k.chain;
          pool = k.pool;
          meets = meets;
          wide = omega arith;
          stub = k.stub;
          full = k.full;
          empty = empties_same s k id w (k.empty id v at named);
          ready = λ j u r. one_set (λ _ z. z.known.share ≢ [] → z.stage ≡ Cleared r → k.cell r ≡ z.item) s.views id w (λ _ is. k.ready id v r at named is) (λ i z _ e some_name is. k.ready i z r e some_name is) j u;
          linked = linked;
          pooled = pool_stays s k k.chain.owner words s.homes (λ r pooled. pooled) links (λ r pooled. refl);
          all = let all = k.all in let same = count_same s.views id v w at refl in omega arith;
          spent = spent_else s k id w named;
          fits = fits_same actor knows s.views k.history id v w at refl refl refl refl k.fits;
          owned = owned_same knows s.views k.history id v w at refl k.owned;
        };
        uses = refl;
        pool = refl;
        rooms = refl;
        calm = λ quiet. quiet;
      }

  same_parties : (end : ℕ) → let w : View E = record v { end = end } in (core s k).party ≡ (λ j. party_of (get_elem? (set s.views id w) j))
  same_parties end =
      let w : View E = record v { end = end } in
      sym (put_again (core s k).party id (party v) (party_at s k id v at named)) ∙ sym (parties_put s.views id w (at_length s.views id v at) named)

  module _ (before : List ℕ) (r n : ℕ) (free : v.free ≡ before ++ r ∷ []) (inside : r < length s.homes) where
    here : ItemAt v.free (length before) r
    here = subst (λ l. ItemAt l (length before) r) (sym free) (at_end before r)

    rooms : OwnsRooms k.chain.owner id (v.free ++ v.back)
    rooms = rooms_of s k id v at named

    mine : k.chain.owner r ≡ Spare id
    mine = free_spare s k id v (length before) r at named here

    none_before : times r before ≡ 0
    none_before = elim (ℕ_discrete (times r before) 0) [
      | yes e ↦ e
      | no ne ↦
          let t = times_at r before (omega arith) in
          let low = at_within before t.0 r t.1 in
          let same = rooms.once t.0 (length before) r (at_more v.free v.back t.0 r (subst (λ l. ItemAt l t.0 r) (sym free) (at_more before (r ∷ []) t.0 r t.1))) (at_more v.free v.back (length before) r here) in
          absurd (omega arith)
    ]

    not_back : (i : ℕ) → ItemAt v.back i r → ⊥
    not_back i a =
        let same = rooms.once (length before) (length v.free + i) r (at_more v.free v.back (length before) r here) (at_after v.free v.back i r a) in
        let low = at_within v.free (length before) r here in
        absurd (omega arith)

    abbrev tied_words : List ℕ
    tied_words = set s.words (LINKS + r) n

    wide : LINKS + r < length s.words
    wide = let w = k.wide in omega arith

    tied_machine : (let w : View E = record v { end = n } in record (core s k) { next = update (core s k).next r (link_of n) } ≡ machine_of k.cell tied_words (set s.views id w))
    tied_machine = link_spelled s.words r n k.cell (set s.views id record v { end = n }) wide (same_parties n)

    pub tied_kept : Stays s k record { words = tied_words; homes = s.homes; views = set s.views id record v { end = n } }
    tied_kept =
        let l = k.linked id v at named in
        let w : View E = record v { end = n } in
        ended tied_words n (subst (λ q. Meets q k.chain (reverse (events k.history))) tied_machine (relink_keeps (core s k) k.chain (reverse (events k.history)) k.meets id r (link_of n) mine)) (length-set s.words (LINKS + r) n)
        (linkeds s k id r n w
        (subst (λ z. Links tied_words z n) (sym free) (links_retied s.words before r v.end n none_before wide (subst (λ z. Links s.words z v.end) free l.0)), linked_else s k s.words v.back v.to r n not_back l.1)
        (λ j ne theirs. ne (spare_one theirs mine)))
        (λ x pooled. next_beside_next s.words r x n (λ same. spare_pooled mine (ap k.chain.owner (sym same) ∙ pooled)))

  pub skip_kept : Stays s k record { words = s.words; homes = s.homes; views = set s.views id v }
  skip_kept = ended s.words v.end (subst (λ q. Meets q k.chain (reverse (events k.history))) same_machine k.meets) refl (linkeds_same s k id v (k.linked id v at named)) (λ r pooled. refl)
    where
      same_machine : core s k ≡ machine_of k.cell s.words (set s.views id v)
      same_machine = party_spelled s.words k.cell (set s.views id v) (same_parties v.end)
