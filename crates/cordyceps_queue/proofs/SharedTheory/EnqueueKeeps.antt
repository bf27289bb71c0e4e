-- The steps of `enqueue` keep the rule of a queue's table.
use Rattle.std.proofs.Common.{◌≡◌, ◌≢◌, ℕ, suc, ◌+◌, ◌<◌, List, [], ◌∷◌, ◌++◌, length, reverse, set, get_or, append-nil, Option, Some, None, refl, sym, ap, ◌∙◌, subst, inl, inr, arith, length-set, length-append}
use mathlib.Core.Option.{some, none}
use lib.ListN.{get_elem?}
use Rattle.atomic_table.specs.Table.{keeps, takes, gives, homes_after, rest, step}
use Rattle.atomic_table.proofs.Lists.{set_here, set_else}
use Rattle.cordyceps_shared.specs.Words as word
use Rattle.cordyceps_shared.specs.declared.layout.TheConstants.{HEAD, LINKS}
use Rattle.cordyceps_shared.proofs.Words.{head_set, next_beside_next}
use Rattle.cordyceps_shared.specs.Histories.{events, of_seat}
use Rattle.cordyceps_shared.specs.Knowing.{all_seen}
use Rattle.cordyceps_shared.specs.Shares.{Name, first_name}
use Rattle.cordyceps_shared.proofs.Choices.{first_or, rest_from}
use Rattle.cordyceps_shared.proofs.StepEvents.{at_length, grown_then}
use Rattle.cordyceps_queue.specs.declared.cores.stage.Stage.{Stage}
use Rattle.cordyceps_queue.specs.declared.cores.stage.Stage.TheVariants.{Rest, Cleared, Swapped}
use Rattle.cordyceps_shared.specs.FreeChains.{Links, leads}
use Rattle.cordyceps_queue.specs.History.{Event, actor}
use Rattle.cordyceps_shared.specs.Places.{ItemAt}
use Rattle.cordyceps_queue.specs.Cores.Meets.{Shared, Ready, Pooled, OwnsRooms, AtStage, real}
use Rattle.cordyceps_queue.specs.Shared.Plays.{SeatState, LegalReversed, Sees}
use Rattle.cordyceps_queue.specs.Shared.Plays as play
use Rattle.cordyceps_shared.specs.Slots.{Homes, EmptyAtHome, Hand}
use Rattle.cordyceps_queue.specs.Shared.Rule.{TableState, party, party_of, machine_of, FullAtHome, PlainHolds}
use Rattle.cordyceps_queue.specs.Shared.View.{View, name, begun_count}
use Rattle.cordyceps_queue.specs.Cores.Abstract.{AbstractMachine, update, clear_room, swap_head, link_next}
use Rattle.cordyceps_queue.proofs.CoreTheory.Basics.{some_inj, put_same, put_other, at_split, real_more}
use Rattle.cordyceps_queue.proofs.CoreTheory.ChainGrows.{real_one}
use Rattle.cordyceps_queue.proofs.CoreTheory.ProducerSteps.{spare_shared, spare_pooled, ready_spare, ready_pooled, shared_pooled, clear_keeps, chain_after_clear, swap_keeps, chain_after_swap, was, fresh, link_keeps, spare_one}
use Rattle.cordyceps_queue.proofs.SharedTheory.WordsAsMachine.{party_as, link_spelled, head_spelled, next_low, parties_put, keeps_rule, core, party_at, rooms_of, free_spare, empties, empties_same, readies, readies_same, head_near, linked_else, own_links, linkeds, linkeds_low, Becomes, PlainAllows}

abbrev room_of : Stage → ℕ
room_of (Cleared r) = r
room_of p = 0

module _ {E : Type 0} (s : TableState E) (k : PlainHolds s) (id : ℕ) (v : View E) (at : get_elem? s.views id ≡ some v) (named : v.known.share ≢ []) where
  abbrev pub m : AbstractMachine Name E
  m = core s k

  abbrev pub past : List (Event Name E)
  past = reverse (events k.history)

  pub here : m.party id ≡ Some (party v)
  here = party_at s k id v at named

  -- the view after a step that adds these events
  abbrev pub view_after : List (Event Name E) → List ℕ → ℕ → List ℕ → ℕ → Stage → Option E → View E
  view_after es free end back to stage item = record { known = all_seen id (k.history ++ of_seat id es) v.known.share; free = free; end = end; back = back; to = to; stage = stage; item = item; bits = k.uses }

  pub views_put : (w : View E) → w.known.share ≢ [] → update m.party id (Some (party w)) ≡ (λ j. party_of (get_elem? (set s.views id w) j))
  views_put w some_name = sym (parties_put s.views id w (at_length s.views id v at) some_name)

  pub wide_words : length s.words ≡ LINKS + length s.homes
  wide_words = k.wide

  -- ---- the store of null
  module _ (r : ℕ) (rs : List ℕ) (e : E) (idle : v.stage ≡ Rest) (bare : v.back ≡ []) (free : v.free ≡ r ∷ rs) where
    spare : v.free ++ v.back ≡ r ∷ rs
    spare = (λ i. free i ++ bare i) ∙ append-nil (r ∷ rs)

    rooms : OwnsRooms k.chain.owner id (r ∷ rs)
    rooms = subst (OwnsRooms k.chain.owner id) spare (rooms_of s k id v at named)

    empty : EmptyAtHome s.homes (r ∷ rs)
    empty = subst (EmptyAtHome s.homes) free (k.empty id v at named)

    abbrev pub clear_view : View E
    clear_view = view_after [] rs v.end [] v.to (Cleared r) (Some e)

    abbrev words_clear : List ℕ
    words_clear = set s.words (LINKS + r) 0

    abbrev homes_clear : Homes E
    homes_clear = set s.homes r none

    inside : r < length s.homes
    inside = at_length s.homes r (some None) (empty 0 r refl)

    clear_machine : clear_room m id (party v) r rs e ≡ machine_of (update k.cell r (Some e)) words_clear (set s.views id clear_view)
    clear_machine = link_spelled s.words r 0 (update k.cell r (Some e)) (set s.views id clear_view) (let w = wide_words in let l = inside in omega arith)
        (ap (λ (l : List ℕ). update m.party id (Some record { name = name v; stage = Cleared r; spare = l })) (sym (append-nil rs)) ∙ views_put clear_view named)

    clear_full : FullAtHome homes_clear (update k.cell r (Some e)) k.chain.rooms
    clear_full i x ix ne =
        let away : x ≢ r = λ same. spare_shared (rooms.own 0 r refl) (ap k.chain.owner (sym same) ∙ k.meets.shared i x ix) in
        set_else s.homes r x none away ∙ k.full i x ix ne ∙ ap (λ o. some (some o)) (sym (put_other k.cell r (Some e) x away))

    clear_empty : EmptyAtHome homes_clear rs
    clear_empty i x ix = set_else s.homes r x none (λ same. absurd (let z = rooms.once (suc i) 0 r (subst (ItemAt rs i) same ix) refl in omega arith)) ∙ empty (suc i) x ix

    pub was_linked : Links s.words (r ∷ rs) v.end
    was_linked = subst (λ l. Links s.words l v.end) free (k.linked id v at named).0

    clear_linked : Links words_clear rs v.end
    clear_linked = linked_else s k s.words rs v.end r 0 (λ i ix. let z = rooms.once (suc i) 0 r ix refl in absurd (omega arith)) was_linked.1

    clear_kept : Becomes s k v clear_view record { words = words_clear; homes = homes_clear; views = set s.views id clear_view } × Sees v [] clear_view
    clear_kept = keeps_rule s k id [] v clear_view words_clear homes_clear (update k.cell r (Some e)) (chain_after_clear m k.chain past k.meets id (party v) here idle r rs spare e) (clear_room m id (party v) r rs e)
        at named (tt, refl) refl clear_machine (clear_keeps m k.chain past k.meets id (party v) here idle r rs spare e)
        (length-set s.words (LINKS + r) 0) (length-set s.homes r none) clear_full
        (empties s k id r none clear_view clear_empty (λ j ne mine. ne (spare_one mine (rooms.own 0 r refl))))
        (readies s k id r (Some e) clear_view (λ q is. ap (λ z. update k.cell r (Some e) z) (sym (ap room_of is)) ∙ put_same k.cell r (Some e)) (λ j ne mine. ready_spare mine (rooms.own 0 r refl)))
        (linkeds s k id r 0 clear_view (clear_linked, tt) (λ j ne mine. ne (spare_one mine (rooms.own 0 r refl))))
        refl (λ i x ix. inr (i, ix)) (λ i x ix. inl (suc i, subst (λ l. ItemAt l (suc i) x) (sym spare) (subst (λ l. ItemAt l i x) (append-nil rs) ix)))
        record {
          owners = λ x pooled. put_other k.chain.owner r (Ready id) x (not_mine x pooled) ∙ pooled;
          links = λ x pooled. next_beside_next s.words r x 0 (not_mine x pooled);
          slots = λ x pooled. set_else s.homes r x none (not_mine x pooled);
          even = let long = ap (λ (l : List ℕ). length l) free in let none_back = ap (λ (l : List ℕ). length l) bare in let not_begun = ap begun_count idle in omega arith;
        }
      where
        not_mine : (x : ℕ) → k.chain.owner x ≡ Pooled → x ≢ r
        not_mine x pooled same = spare_pooled (rooms.own 0 r refl) (ap k.chain.owner (sym same) ∙ pooled)

  -- ---- the swap of head
  module _ (r : ℕ) (e : E) (ready : v.stage ≡ Cleared r) (item : v.item ≡ Some e) (inside : r < length s.homes) where
    has : k.cell r ≡ Some e
    has = k.ready id v r at named ready ∙ item

    abbrev found_word : ℕ
    found_word = word.head s.words

    abbrev pub swap_view : View E
    swap_view = view_after (Event.Swap (name v) e ∷ []) v.free v.end v.back v.to (Swapped r found_word) None

    abbrev words_swap : List ℕ
    words_swap = set s.words HEAD r

    abbrev homes_swap : Homes E
    homes_swap = set s.homes r (some (Some e))

    known : AtStage m.head m.next m.cell k.chain.owner k.chain.keeper k.chain.rooms past id (name v) (Cleared r)
    known = was m k.chain past k.meets id (party v) here r e ready has

    swap_machine : swap_head m id (party v) r (Swapped r found_word) ≡ machine_of k.cell words_swap (set s.views id swap_view)
    swap_machine = head_spelled s.words r k.cell (set s.views id swap_view) (let w = wide_words in omega arith) (views_put swap_view named)

    swap_full : FullAtHome homes_swap k.cell (k.chain.rooms ++ r ∷ [])
    swap_full i x ix ne = elim (at_split k.chain.rooms r i x ix) [
      | inl a ↦ set_else s.homes r x (some (Some e)) (λ same. fresh m k.chain past k.meets id (party v) here r e ready has i (subst (ItemAt k.chain.rooms i) same a)) ∙ k.full i x a ne
      | inr a ↦ ap (get_elem? homes_swap) a.1 ∙ set_here s.homes r (some (Some e)) inside ∙ ap (λ o. some (some o)) (sym has) ∙ ap (λ n. some (some (k.cell n))) (sym a.1)
    ]

    swap_empty : EmptyAtHome homes_swap v.free
    swap_empty i x ix = set_else s.homes r x (some (Some e))
        (λ same. ready_spare known.ready (ap k.chain.owner (sym same) ∙ free_spare s k id v i x at named ix))
        ∙ k.empty id v at named i x ix

    swap_kept : Becomes s k v swap_view record { words = words_swap; homes = homes_swap; views = set s.views id swap_view } × Sees v (Event.Swap (name v) e ∷ []) swap_view
    swap_kept = keeps_rule s k id (Event.Swap (name v) e ∷ []) v swap_view words_swap homes_swap k.cell (chain_after_swap m k.chain past k.meets id (party v) here r e ready has) (swap_head m id (party v) r (Swapped r found_word))
        at named ((refl, tt), refl) refl swap_machine (swap_keeps m k.chain past k.meets id (party v) here r e ready has)
        (length-set s.words HEAD r) (length-set s.homes r (some (Some e))) swap_full
        (empties s k id r (some (Some e)) swap_view swap_empty (λ j ne mine. ready_spare known.ready mine))
        (readies_same s k id swap_view (λ q is. cc)) (linkeds_low s k id HEAD r swap_view (omega arith) (k.linked id v at named))
        refl (λ i x ix. elim (at_split k.chain.rooms r i x ix) [ inl a ↦ inr (i, a) | inr a ↦ inl (a.1 ∙ sym (head_set s.words r (let w = wide_words in omega arith))) ]) (λ i x ix. inl (i, ix))
        record {
          owners = λ x pooled. put_other k.chain.owner r Shared x (not_mine x pooled) ∙ pooled;
          links = λ x pooled. next_low s.words HEAD r (omega arith) x;
          slots = λ x pooled. set_else s.homes r x (some (Some e)) (not_mine x pooled);
          even =
              let one = ap (λ (l : List ℕ). length l) (real_more k.chain.rooms (r ∷ [])
              ∙ ap (λ l. real k.chain.rooms ++ l) (real_one r known.is_real)) in
              let long = length-append (real k.chain.rooms) (r ∷ []) in
              let begun = ap begun_count ready in omega arith;
        }
      where
        not_mine : (x : ℕ) → k.chain.owner x ≡ Pooled → x ≢ r
        not_mine x pooled same = ready_pooled known.ready (ap k.chain.owner (sym same) ∙ pooled)

  -- ---- the store of the link
  module _ (r old : ℕ) (waits : v.stage ≡ Swapped r old) (inside : old < length s.homes) where
    abbrev pub link_view : View E
    link_view = view_after (Event.Link (name v) ∷ []) v.free v.end v.back v.to Rest None

    abbrev words_link : List ℕ
    words_link = set s.words (LINKS + old) (suc r)

    link_machine : link_next m id (party v) old r Rest ≡ machine_of k.cell words_link (set s.views id link_view)
    link_machine = link_spelled s.words old (suc r) k.cell (set s.views id link_view) (let w = wide_words in let l = inside in omega arith) (views_put link_view named)

    old_shared : k.chain.owner old ≡ Shared
    old_shared = let f = party_as s k id v at named waits in k.meets.shared f.at old f.old_at

    link_kept : Becomes s k v link_view record { words = words_link; homes = s.homes; views = set s.views id link_view } × Sees v (Event.Link (name v) ∷ []) link_view
    link_kept = keeps_rule s k id (Event.Link (name v) ∷ []) v link_view words_link s.homes k.cell k.chain (link_next m id (party v) old r Rest)
        at named ((refl, tt), refl) refl link_machine (link_keeps m k.chain past k.meets id (party v) here r old waits)
        (length-set s.words (LINKS + old) (suc r)) refl k.full (empties_same s k id link_view (k.empty id v at named)) (readies_same s k id link_view (λ q is. cc))
        (linkeds s k id old (suc r) link_view (own_links s k id old (suc r) v at named (λ mine. spare_shared mine old_shared)) (λ j ne mine. spare_shared mine old_shared))
        refl (λ i x ix. inr (i, ix)) (λ i x ix. inl (i, ix))
        record {
          owners = λ x pooled. pooled;
          links = λ x pooled. next_beside_next s.words old x (suc r) (λ same. shared_pooled old_shared (ap k.chain.owner (sym same) ∙ pooled));
          slots = λ x pooled. refl;
          even = let not_begun = ap begun_count waits in omega arith;
        }

module _ {E : Type 0} where
  pub clears : (slots id i : ℕ) (me : SeatState E) (r : ℕ) (rs : List ℕ) (item : Option E) (e : E) → i ≡ LINKS + r → item ≡ Some e → me.0.stage ≡ Rest → me.0.back ≡ [] → me.0.free ≡ r ∷ rs → me.0.known.share ≢ []
      → PlainAllows slots id me i (λ _. 0) (play.after_begin item (step slots i 0 0 none) me)
  clears slots id i me r rs item e is chosen idle bare free named s k deep at =
      let c = clear_kept s k id me.0 at named r rs e idle bare free in
      let same : LINKS + r ≡ i = omega arith in
      let there = empty s k id me.0 at named r rs e idle bare free 0 r refl in
      let near : r < slots = let l = at_length s.homes r (some None) there in omega arith in
      let linked = was_linked s k id me.0 at named r rs e idle bare free in
      let w = clear_view s k id me.0 at named r rs e idle bare free in (
        record {
          view = w;
          act = takes r None;
          valid = there;
          becomes = subst (λ (q : ℕ). Becomes s k me.0 w
              record { words = set s.words q 0; homes = set s.homes r none; views = set s.views id w }) same c.0;
        },
        λ r' rs' e' free' item'.
            let p : r ∷ rs ≡ r' ∷ rs' = sym free ∙ free' in
            let q : e ≡ e' = some_inj (sym chosen ∙ item') in
            record {
              stage = ap (λ (l : List ℕ). Cleared (first_or 0 l)) p;
              item = ap Some q;
              free = ap rest_from p;
              back = sym bare;
              hand = ap (λ (l : List ℕ). let y : Option E = None in (first_or 0 l, y) ∷ me.1) p;
              near = subst (λ n. n < slots) (ap (first_or 0) p) near;
              sees = c.1;
              end = refl;
              next_is = ap (λ n. get_or s.words n 0) is ∙ (linked.0 ∙ ap (λ l. leads l me.0.end) (ap rest_from p));
            },
      )

  pub swaps : (slots id : ℕ) (me : SeatState E) (r : ℕ) (e : E) (cs : Hand E) → me.0.stage ≡ Cleared r → me.0.item ≡ Some e → me.1 ≡ (r, Some e) ∷ cs → r < slots → me.0.known.share ≢ []
      → PlainAllows slots id me HEAD (λ _. r) (play.after_swap (step slots HEAD r 0 none) me)
  swaps slots id me r e cs ready item hand near named s k deep at =
      let inside : r < length s.homes = omega arith in
      let c = swap_kept s k id me.0 at named r e ready item inside in
      let w = swap_view s k id me.0 at named r e ready item inside in (
        record {
          view = w;
          act = gives;
          valid = tt;
          becomes = subst (λ z. Becomes s k me.0 w record {
            words = set s.words HEAD r;
            homes = homes_after s.homes z
                gives;
            views = set s.views id w;
          }) (sym hand) c.0;
        },
        λ r' e' cs' ready' item' hand'.
            let p : Cleared r ≡ Cleared r' = sym ready ∙ ready' in
            let q : e ≡ e' = some_inj (sym item ∙ item') in
            let h = head_near s k in
            record {
              stage = ap (λ l. Swapped (room_of l) (word.head s.words)) p;
              free = refl;
              back = refl;
              hand = ap rest hand';
              near = omega arith;
              sees = subst (λ x. Sees me.0 (Event.Swap (name me.0) x ∷ []) w) q c.1;
              end = refl;
            },
      )

  pub links_on : (slots id i n : ℕ) (me : SeatState E) (r old : ℕ) → i ≡ LINKS + old → n ≡ r + 1 → me.0.stage ≡ Swapped r old → old < slots → me.0.known.share ≢ []
      → PlainAllows slots id me i (λ _. n) (λ _. play.after_link (step slots i n 0 none) me n)
  links_on slots id i n me r old is is_n waits near named s k deep at =
      let inside : old < length s.homes = omega arith in
      let c = link_kept s k id me.0 at named r old waits inside in
      let w = link_view s k id me.0 at named r old waits inside in
      let same : LINKS + old ≡ i = omega arith in
      let same_n : suc r ≡ n = omega arith in (
        record {
          view = w;
          act = keeps;
          valid = tt;
          becomes = subst (λ (q : ℕ × ℕ). Becomes s k me.0 w
              record { words = set s.words q.0 q.1; homes = s.homes; views = set s.views id w })
              (λ j. (same j, same_n j)) c.0;
        },
        λ _ _ _. record { stage = refl; free = refl; back = refl; hand = refl; sees = c.1; end = refl },
      )

  -- the three steps in one
  pub enqueued : (u v v' w x : View E) (e : E) → Sees u [] v → v' ≡ v → Sees v' (Event.Swap (name v') e ∷ []) w → Sees w (Event.Link (name w) ∷ []) x → Sees u (Event.Swap (name u) e ∷ Event.Link (name u) ∷ []) x
  enqueued u v v' w x e a same b c =
      let first : name v' ≡ name u = ap (λ (z : View E). name z) same ∙ ap first_name a.share in
      let second : name w ≡ name u = ap first_name b.share ∙ first in
      let swap : Sees v (Event.Swap (name u) e ∷ []) w = subst (λ (z : View E × Name). Sees z.0 (Event.Swap z.1 e ∷ []) w) (λ j. (same j, first j)) b in
      let link : Sees w (Event.Link (name u) ∷ []) x = subst (λ n. Sees w (Event.Link n ∷ []) x) second c in
      grown_then actor LegalReversed u.known v.known x.known [] (Event.Swap (name u) e ∷ Event.Link (name u) ∷ []) a
      (grown_then actor LegalReversed v.known w.known x.known (Event.Swap (name u) e ∷ []) (Event.Link (name u) ∷ []) swap link)
