-- The tickets in a heap, by deadline: what the heap's calls make of them.
use Rattle.std.proofs.Common.{◌≡◌, List, [], ◌∷◌, ◌++◌, length, IsPermutation, refl, ap, sym, ◌∙◌, subst, append_assoc, append-nil}
use Rattle.std.proofs.lemmas.List.Sorted.{IsPermutation-append_left, IsPermutation-middle, IsPermutation-refl, IsPermutation-sym, IsPermutation-trans, length_permutation}
use denote.RawPtr.{Ptr}
use Rattle.cordyceps.specs.Elements.Element.{Element}
use Rattle.cordyceps.specs.Elements.Nodes.{Nodes, spots}
use Rattle.cordyceps.specs.Orders.Arrangement.{IsEarliestLeast}
use Rattle.cordyceps.specs.Spots.Agreeing.{HasElementAt}
use Rattle.cordyceps.specs.Spots.Arranged.{Arranges, precedes}
use Rattle.cordyceps.specs.Spots.BySpot.{HasSpot, HoldsAt, IsFirst, IsTaken}
use Rattle.cordyceps.specs.Spots.DoubleLines.{flat}
use Rattle.cordyceps.specs.Spots.Heap.{Holds}
use Rattle.cordyceps.specs.Spots.Spots.{AreDistinct}
use Rattle.cordyceps.proofs.Spots.Apart.{permuted_distinct}
use Rattle.cordyceps.proofs.Spots.Arrivals.{Stands, all_same, first_of, one_less}
use Rattle.cordyceps.proofs.Spots.Kept.{permuted_has}
use Rattle.cordyceps.proofs.Spots.Standing.{heap_stands}
use Rattle.cordyceps_disk.specs.declared.request.Ticket.{Ticket}
use Rattle.cordyceps_disk.specs.declared.request.Waiting.{Waiting}
use Rattle.cordyceps_disk.specs.Orders.{by_deadline, by_deadline_lawful}
use Rattle.cordyceps_disk.specs.Pairs.{Kept, Paired, Rises, deadline_of, put_all_by, tickets_in}
use Rattle.cordyceps_disk.specs.Queue.{put_by}
use Rattle.cordyceps_disk.proofs.Ahead.{holds_value}
use Rattle.cordyceps_disk.proofs.Ordered.{is_put, itself, put_arranges, put_rises, put_taken}

-- ---- tickets that came one after the other
all_rise : (more s : Nodes Ticket) → Rises deadline_of s → Rises deadline_of (put_all_by deadline_of s more)
all_rise [] s h = h
all_rise (n ∷ more) s h = all_rise more (put_by deadline_of n s) (put_rises deadline_of n s h)

all_arranged : (more s a : Nodes Ticket) → Rises deadline_of s → Arranges by_deadline s a
    → Arranges by_deadline (put_all_by deadline_of s more) (a ++ more)
all_arranged [] s a rises h = subst (Arranges by_deadline s) (sym (append-nil a)) h
all_arranged (n ∷ more) s a rises h =
    let next : Nodes Ticket = put_by deadline_of n s in
    let first = put_arranges (λ (w : Ticket). w.deadline) by_deadline_lawful s a n rises h in
    subst (Arranges by_deadline (put_all_by deadline_of next more)) (append_assoc a (n ∷ []) more)
    (all_arranged more next (a ++ n ∷ []) (put_rises deadline_of n s rises) first)

one_kept : (n : Ptr × Element Ticket) (s : Nodes Ticket) → Rises deadline_of s
    → IsPermutation (put_by deadline_of n s) (n ∷ s)
one_kept n s h =
    let (front, back, put, parts) = put_taken (λ (w : Ticket). w.deadline) n s h in
    subst (λ (l : Nodes Ticket × Nodes Ticket). IsPermutation l.0 (n ∷ l.1)) (λ i. (sym put i, sym parts i))
    (IsPermutation-middle front n back)

all_kept : (more s : Nodes Ticket) → Rises deadline_of s → IsPermutation (put_all_by deadline_of s more) (s ++ more)
all_kept [] s h = subst (IsPermutation s) (sym (append-nil s)) (IsPermutation-refl s)
all_kept (n ∷ more) s h =
    let next : Nodes Ticket = put_by deadline_of n s in
    let one = IsPermutation-append_left more next (n ∷ s) (one_kept n s h) in
    IsPermutation-trans _ _ _ (all_kept more next (put_rises deadline_of n s h))
    (IsPermutation-trans _ _ _ one (IsPermutation-sym _ _ (IsPermutation-middle s n more)))

module _ (lines : List (Nodes Ticket)) where
  pub rises : Rises deadline_of (tickets_in lines)
  rises = all_rise (flat lines) [] tt

  arranged : Arranges by_deadline (tickets_in lines) (flat lines)
  arranged = all_arranged (flat lines) [] [] tt (itself (λ (w : Ticket). w.deadline) by_deadline_lawful [] tt)

  kept : IsPermutation (tickets_in lines) (flat lines)
  kept = all_kept (flat lines) [] tt

  pub as_long : length (tickets_in lines) ≡ length (flat lines)
  as_long = sym (length_permutation (tickets_in lines) (flat lines) kept)

  pub has : (u : Ptr) → HasSpot (tickets_in lines) u → HasSpot (flat lines) u
  has u h = permuted_has (tickets_in lines) (flat lines) u kept h

  pub distinct : AreDistinct (spots (flat lines)) → AreDistinct (spots (tickets_in lines))
  distinct h =
      permuted_distinct (flat lines) (tickets_in lines) (IsPermutation-sym (tickets_in lines) (flat lines) kept) h

  -- they stand for what the heap holds
  pub stands : (a : Nodes Ticket) → Holds by_deadline lines a
      → Stands by_deadline (Holds by_deadline lines) (tickets_in lines)
  stands a h = heap_stands by_deadline lines (tickets_in lines) a arranged h

  pub arranges : (a : Nodes Ticket) → Holds by_deadline lines a → Arranges by_deadline (tickets_in lines) a
  arranges a h = (stands a h).arranges a h

  pub none_in : flat lines ≡ [] → tickets_in lines ≡ []
  none_in none = ap (λ s. put_all_by deadline_of [] s) none

no_element : {X : Type 0} (q : Ptr) (e : Element X) → HasElementAt [] q e → ⊥
no_element q e ([], a, is) = absurd cc
no_element q e (n ∷ b, a, is) = absurd cc

-- no requests and no tickets
pub none_kept : {P : Type 0} (lines : List (Nodes Ticket)) → flat lines ≡ [] → Holds by_deadline lines []
    → Kept {P = P} [] lines
none_kept {P = P} lines none h =
    let empty = sym (none_in lines none) in
    let pairs : Paired {P = P} [] [] = record {
      by_sector = tt;
      by_deadline = tt;
      distinct = tt;
      tickets_distinct = tt;
      length = refl;
      ticket = λ q e lies. absurd (no_element q e lies);
      request = λ u k lies. absurd (no_element u k lies);
    } in
    record { paired = subst (Paired []) empty pairs; held = subst (Holds by_deadline lines) empty h }

-- ---- from some lines to others
module _ (ls ms : List (Nodes Ticket)) (was : Holds by_deadline ls (tickets_in ls)) where
  -- the tickets of these lines stand for what they hold
  before : Stands by_deadline (Holds by_deadline ls) (tickets_in ls)
  before = stands ls (tickets_in ls) was

  pub pushed : (n : Ptr × Element Ticket) → Holds by_deadline ms (tickets_in ls ++ n ∷ [])
      → tickets_in ms ≡ put_by deadline_of n (tickets_in ls)
  pushed n h =
      is_put (λ (w : Ticket). w.deadline) by_deadline_lawful (tickets_in ls) (tickets_in ms) n (rises ls)
      (arranges ms (tickets_in ls ++ n ∷ []) h)

  pub removed : (u : Ptr) (k : Element Ticket)
      → ((a : Nodes Ticket) → Holds by_deadline ls a
      → (rest : Nodes Ticket) × (IsTaken a u k rest × Holds by_deadline ms rest))
      → IsTaken (tickets_in ls) u k (tickets_in ms) × Holds by_deadline ms (tickets_in ms)
  removed u k h =
      let (rest, (_, held)) = h (tickets_in ls) was in
      let left = stands ms rest held in (
        one_less by_deadline_lawful (Holds by_deadline ls) (tickets_in ls) before (Holds by_deadline ms)
            (tickets_in ms) left u k h,
        left.held,
      )

  pub changed : (u : Ptr) (k o : Element Ticket)
      → ((a : Nodes Ticket) → Holds by_deadline ls a
      → (left : Nodes Ticket) × (IsTaken a u k left × Holds by_deadline ms (left ++ (u, o) ∷ [])))
      → (left : Nodes Ticket)
      × (IsTaken (tickets_in ls) u k left × Arranges by_deadline (tickets_in ms) (left ++ (u, o) ∷ []))
      × Holds by_deadline ms (tickets_in ms)
  changed u k o h =
      let (left, (taken, held)) = h (tickets_in ls) was in
      let all : Nodes Ticket = left ++ (u, o) ∷ [] in
      (left, (taken, arranges ms all held), (stands ms all held).held)

  -- the first was looked for, and the same arrivals are held
  module _ (same : (a : Nodes Ticket) → Holds by_deadline ls a → Holds by_deadline ms a) where
    after : Stands by_deadline (Holds by_deadline ms) (tickets_in ms)
    after = stands ms (tickets_in ls) (same (tickets_in ls) was)

    pub stayed : tickets_in ms ≡ tickets_in ls
    stayed =
        all_same by_deadline_lawful (Holds by_deadline ls) (tickets_in ls) before (Holds by_deadline ms)
        (tickets_in ms) after same

    pub still_kept : {P : Type 0} (c : Nodes (Waiting P)) → Paired c (tickets_in ls) → Kept c ms
    still_kept c h = record { paired = subst (Paired c) (sym stayed) h; held = after.held }

    -- what was found is the first by deadline, and what is read there is its value
    pub found_first : (u : Ptr) (w : Ticket) → AreDistinct (spots (flat ms)) → HoldsAt (flat ms) u w
        → (e : Element Ticket) × HasElementAt (flat ms) u e
        × ((a : Nodes Ticket) → Holds by_deadline ls a
        → (rest : Nodes Ticket) × IsEarliestLeast (precedes by_deadline) a (u, e) rest)
        → IsFirst (tickets_in ls) u × HoldsAt (tickets_in ls) u w
    found_first u w apart read (e, (b, a, lies), first) =
        let (rest, is) = first_of by_deadline_lawful (Holds by_deadline ls) (tickets_in ls) before (u, e) first in
        let value = holds_value (flat ms) b a u e w apart lies read in
        let all = is ∙ ap (λ (v : Ticket). (u, record { id = e.id; value = v }) ∷ rest) (sym value) in
        ((e, rest, is), ([], e.id, rest, all))
