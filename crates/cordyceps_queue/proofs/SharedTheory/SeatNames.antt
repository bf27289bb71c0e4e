-- Whose names and rooms the parties of a queue's table have.
use Rattle.std.proofs.Common.{◌≡◌, ◌≢◌, ℕ, ◌≤◌, List, [], ◌∷◌, ◌++◌, reverse, length, replicate, false, Option, Some, None, refl, sym, ap, ◌∙◌, subst, arith, length-append}
use Rattle.std.proofs.lemmas.List.{reverse-append}
use mathlib.Core.Bool.{Bool-discrete}
use mathlib.Core.List.{List-discrete}
use mathlib.Core.Option.{some, none}
use mathlib.Core.Option as maybe
use native.Mathlib.Decide.{ℕ_discrete}
use lib.ListN.{get_elem?, length-replicate}
use Rattle.cordyceps_shared.specs.Histories.{events, plain}
use Rattle.cordyceps_shared.specs.Knowing.{Foreign, SharesDisjoint}
use Rattle.cordyceps_shared.specs.Shares.{Name, covers, first_name, Clear, IsOf}
use Rattle.cordyceps_shared.proofs.Counting.{tally_two, distinct_few}
use Rattle.cordyceps_shared.proofs.PartyNames.{some_cover}
use Rattle.cordyceps_shared.proofs.Places.{times_at}
use Rattle.cordyceps_shared.proofs.Standings as seats
use Rattle.cordyceps_queue.specs.declared.cores.stage.Stage.TheVariants.{Rest}
use Rattle.cordyceps_queue.specs.Cores.Meets.{RightIs, tail_of}
use Rattle.cordyceps_queue.specs.History.{Event, actor, links_by, swaps_by, is_swap, is_link, is_take, is_free}
use Rattle.cordyceps_queue.specs.Laws.{takes_by, frees_by}
use Rattle.cordyceps_queue.specs.Shared.Calls.{same_name, Legal, NonePending, NoneHolds}
use Rattle.cordyceps_queue.specs.Past.{holder_reversed, IsSettled, IsLegalReversed}
use Rattle.cordyceps_queue.specs.Shared.Rule.{TableState, History, party, party_if, party_of, PlainHolds}
use Rattle.cordyceps_queue.specs.Shared.View.{View, knows, name}
use Rattle.cordyceps_queue.specs.Cores.Abstract.{AbstractParty}
use Rattle.cordyceps_queue.proofs.CoreTheory.Basics.{some_inj, none_some, times_once, at_more}
use Rattle.cordyceps_queue.proofs.HistoryEnds.{count-append, count-reverse, count_of_other}
use Rattle.cordyceps_queue.proofs.Legality.{told_legal, front_legal, counts, holder_of}
use Rattle.cordyceps_queue.proofs.SharedTheory.OwnNames.{even_frees, not_holder}
use Rattle.cordyceps_queue.proofs.SharedTheory.WordsAsMachine.{party_as, core, party_at, rooms_of}
use Rattle.cordyceps_shared.proofs.StepEvents.{at_length, first_clear}
use Rattle.cordyceps_shared.proofs.EventCounts.{foreign_counts}

named_was : (names : List Name) (p q : AbstractParty Name) → party_if names p ≡ Some q → (names ≢ []) × (p ≡ q)
named_was [] p q e = absurd (none_some e)
named_was (n ∷ ns) p q e = ((λ c. absurd (cc)), some_inj e)

module _ {E : Type 0} where
  -- a party is a seat with a share
  pub record IsSeat (o : maybe.Option (View E)) (p : AbstractParty Name) : Type 0 where
    pub view : View E
    pub there : o ≡ some view
    pub named : view.known.share ≢ []
    pub is : party view ≡ p

  pub party_was : (o : maybe.Option (View E)) (p : AbstractParty Name) → party_of o ≡ Some p → IsSeat o p
  party_was none p e = absurd (none_some e)
  party_was (some u) p e = let t = named_was u.known.share (party u) p e in record { view = u; there = refl; named = t.0; is = t.1 }

-- ---- names
named_first : (ns : List Name) (y : Name) → ns ≢ [] → 1 ≤ covers (first_name ns ++ y) ns
named_first [] y not = absurd (not refl)
named_first (n ∷ ns) y not = some_cover n y ns

pub name_known : (q n : Name) → Dec (q ≡ n)
name_known q n = List-discrete Bool-discrete q n

module _ {E : Type 0} (views : List (View E)) (h : History E) (o : SharesDisjoint knows views h) where
  -- two parties differ in the first names of their shares
  same_seat : (i j : ℕ) (u v : View E) → get_elem? views i ≡ some u → get_elem? views j ≡ some v → u.known.share ≢ [] → v.known.share ≢ [] → name u ≡ name v → i ≡ j
  same_seat i j u v at there named named_too same = elim (ℕ_discrete i j) [
    | yes e ↦ e
    | no ne ↦
        let tail = replicate o.long false in
        let x = name u ++ tail in
        let long : o.long ≤ length x = omega (arith, length-append (name u) tail, length-replicate o.long false) in
        let few = o.apart x long in
        let two = tally_two (λ (z : View E). covers x z.known.share) views i j u v ne at there in
        let mine = named_first u.known.share tail named in
        let theirs : 1 ≤ covers x v.known.share = subst (λ n. 1 ≤ covers (n ++ tail) v.known.share) (sym same) (named_first v.known.share tail named_too) in
        absurd (omega arith)
  ]

  pub names_differ : (j k : ℕ) (p q : AbstractParty Name) → party_of (get_elem? views j) ≡ Some p → party_of (get_elem? views k) ≡ Some q → p.name ≡ q.name → j ≡ k
  names_differ j k p q ej ek same =
      let a = party_was (get_elem? views j) p ej in
      let b = party_was (get_elem? views k) q ek in
      let by : (x : AbstractParty Name) → Name = λ (x : AbstractParty Name). x.name in
      same_seat j k a.view b.view a.there b.there a.named b.named (ap by a.is ∙ (same ∙ sym (ap by b.is)))

-- ---- rooms
module _ {E : Type 0} (s : TableState E) (k : PlainHolds s) (id : ℕ) (v : View E) (at : get_elem? s.views id ≡ some v) (named : v.known.share ≢ []) where
  -- a party has no more free rooms than there are slots
  pub few_rooms : length v.free ≤ length s.homes
  few_rooms =
      let R = rooms_of s k id v at named in
      distinct_few (length s.homes) v.free
      (λ r. times_once r v.free (λ i j a b. R.once i j r (at_more v.free v.back i r a) (at_more v.free v.back j r b)))
      (λ r l. let t = times_at r v.free l in at_length s.homes r (some None) (k.empty id v at named t.0 r t.1))

-- ---- a party between two calls: none of its names is pending, and none has the right
module _ {E : Type 0} (s : TableState E) (k : PlainHolds s) (id : ℕ) (v : View E) (at : get_elem? s.views id ≡ some v) (named : v.known.share ≢ []) (rest : v.stage ≡ Rest) where
  past : List (Event Name E)
  past = reverse (events k.history)

  -- of another party no name is one of this one's
  not_another : (j : ℕ) (p : AbstractParty Name) (q : Name) → j ≢ id → (core s k).party j ≡ Some p → p.name ≡ q → IsOf v.known.share q → ⊥
  not_another j p q ne e same of =
      let w = party_was (get_elem? s.views j) p e in
      let clear = first_clear knows s.views k.history id j v w.view k.owned (λ c. ne (sym c)) at w.there w.named in
      of (subst (λ n. Clear n v.known.share) (ap (λ (z : AbstractParty Name). z.name) w.is ∙ same) clear)

  mine : (p : AbstractParty Name) → (core s k).party id ≡ Some p → party v ≡ p
  mine p e = some_inj (sym (party_at s k id v at named) ∙ e)

  settled : (q : Name) → IsOf v.known.share q → IsSettled q past
  unfolding past
  settled q of = elim (name_known q (name v)) [
    | yes e ↦ subst (λ x. IsSettled x (reverse (events k.history))) (sym e)
        (party_as s k id v at named rest)
    | no not ↦ k.meets.strangers q (λ j p e same. elim (ℕ_discrete j id) [
      | yes here ↦ not (sym same ∙ sym (ap (λ (z : AbstractParty Name). z.name) (mine p (subst (λ i. (core s k).party i ≡ Some p) here e))))
      | no ne ↦ not_another j p q ne e same of
    ])
  ]

  not_kept : (q : Name) → IsOf v.known.share q → (keeper : Option ℕ) (right : ℕ) (rooms : List ℕ) → RightIs right (core s k).party rooms past keeper → holder_reversed past ≢ Some q
  not_kept q of None right rooms R e = none_some (sym R.unheld ∙ e)
  not_kept q of (Some j) right rooms R e = elim (ℕ_discrete j id) [
    | yes here ↦
        let same = mine R.by (subst (λ i. (core s k).party i ≡ Some R.by) here R.there) in
        let at_rest : R.by.stage ≡ Rest = sym (ap (λ (z : AbstractParty Name). z.stage) same) ∙ rest in
        absurd (none_some (sym (ap tail_of at_rest) ∙ R.has))
    | no ne ↦ not_another j R.by q ne R.there (some_inj (sym R.held ∙ e)) of
  ]

  -- what it has seen, and what it has not, which carries none of its names
  legal : Legal (events k.history)
  legal = told_legal same_name (events k.history) k.meets.legal

  later : List (ℕ × Event Name E)
  later = (k.fits id v at).later

  all_is : events k.history ≡ plain v.known.seen ++ events later
  unfolding later
  all_is = seats.seen_front actor k.history id v.known (k.fits id v at)

  foreign : Foreign actor v.known.share (events later)
  unfolding later
  foreign = (k.fits id v at).foreign

  seen_legal : Legal (plain v.known.seen)
  seen_legal = told_legal same_name (plain v.known.seen) (front_legal (reverse (events later)) (reverse (plain v.known.seen))
      (subst (λ z. IsLegalReversed z) (ap (λ z. reverse z) all_is ∙ reverse-append (plain v.known.seen) (events later)) k.meets.legal))

  pub rest_linked : NonePending v.known.share (plain v.known.seen)
  unfolding past
  rest_linked q of p =
      let h = events k.history in
      let even : links_by same_name q h ≡ swaps_by same_name q h =
      sym (count-reverse same_name is_link q h) ∙ ((counts same_name (reverse h) k.meets.legal q).0 (settled q of) ∙ count-reverse same_name is_swap q h) in
      let links = ap (λ z. links_by same_name q z) all_is ∙ count-append same_name is_link q (plain v.known.seen) (events later) in
      let swaps = ap (λ z. swaps_by same_name q z) all_is ∙ count-append same_name is_swap q (plain v.known.seen) (events later) in
      let no_links = foreign_counts (λ z. links_by same_name q z) (count-append same_name is_link q) actor q (count_of_other same_name is_link q) v.known.share of (events later) foreign in
      let no_swaps = foreign_counts (λ z. swaps_by same_name q z) (count-append same_name is_swap q) actor q (count_of_other same_name is_swap q) v.known.share of (events later) foreign in
      absurd (omega arith)

  pub rest_unheld : NoneHolds v.known.share (plain v.known.seen)
  unfolding past
  rest_unheld q of =
      let h = events k.history in
      let even = even_frees q h legal (λ e. not_kept q of k.chain.keeper _ k.chain.rooms k.meets.right (sym (holder_of h) ∙ e)) in
      let frees = ap (λ z. frees_by same_name q z) all_is ∙ count-append same_name is_free q (plain v.known.seen) (events later) in
      let takes = ap (λ z. takes_by same_name q z) all_is ∙ count-append same_name is_take q (plain v.known.seen) (events later) in
      let no_frees = foreign_counts (λ z. frees_by same_name q z) (count-append same_name is_free q) actor q (count_of_other same_name is_free q) v.known.share of (events later) foreign in
      let no_takes = foreign_counts (λ z. takes_by same_name q z) (count-append same_name is_take q) actor q (count_of_other same_name is_take q) v.known.share of (events later) foreign in
      not_holder q (plain v.known.seen) seen_legal (omega arith)
