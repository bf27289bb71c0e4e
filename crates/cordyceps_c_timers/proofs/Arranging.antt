-- The order of the nodes of a queue: what the queue's calls make of it, and that it has the same nodes.
use Rattle.std.proofs.Common.{◌≡◌, ℕ, Bool, List, cond, nat_lt, refl, [], ◌∷◌, ◌++◌, length, IsPermutation, ap, sym, ◌∙◌, subst}
use Rattle.std.proofs.lemmas.List.{append-nil, append_assoc}
use Rattle.std.proofs.lemmas.List.Elements.{All-from_recursion, recursion_from_All}
use Rattle.std.proofs.lemmas.List.Sorted.{All-permutation, IsPermutation-append_left, IsPermutation-middle, IsPermutation-refl, IsPermutation-sym, IsPermutation-trans, length_permutation}
use Rattle.std.specs.List.{AllByRecursion}
use Rattle.std.specs.declared.cmp.Ordering.{Ordering}
use denote.RawPtr.{Ptr}
use Rattle.cordyceps_base.specs.Element.{Element}
use Rattle.cordyceps_base.specs.Nodes.{Nodes}
use Rattle.cordyceps_single.specs.Arrangement.{IsEarliestLeast}
use Rattle.cordyceps_stable.specs.Arranged.{precedes, Arranges}
use Rattle.cordyceps_base.specs.BySpot.{IsTaken}
use Rattle.cordyceps_clock.specs.Clock.{Holds}
use Rattle.cordyceps_base.specs.DoubleLines.{flat}
use Rattle.cordyceps_heap.specs.Heap as heap
use Rattle.cordyceps_single.proofs.Preorder.{by_test}
use Rattle.cordyceps_stable.proofs.Arranged.{arranges_itself, arranges_taken, same_nodes}
use Rattle.cordyceps_stable.proofs.Arrivals.{Stands, all_same, first_less, one_less, one_more, stands_for}
use Rattle.cordyceps_heap.proofs.Standing.{heap_stands}
use Rattle.cordyceps_c_timers.specs.Arranged.{InOrder, arranged, placed, placed_all}
use Rattle.cordyceps_c_timers.proofs.Placing.{by_number, keeps_order, lawful, stands, places}

module _ {X : Type 0} (number : X → ℕ) where
  abbrev by : X → X → Ordering
  by = by_number number

  arranges_all : (more s a : Nodes X) → Arranges by s a → Arranges by (placed_all number s more) (a ++ more)
  arranges_all [] s a h = subst (Arranges by s) (sym (append-nil a)) h
  arranges_all (n ∷ more) s a h =
      let next : Nodes X = placed number n.0 n.1 s in
      subst (Arranges by (placed_all number next more)) (append_assoc a (n ∷ []) more) (arranges_all more next (a ++ n ∷ []) (places number n.0 n.1 s a h))

  pub arranges : (c : Nodes X) → Arranges by (arranged number c) c
  arranges c = arranges_all c [] [] (stands number [] tt)

  pub in_order : (c : Nodes X) → InOrder number (arranged number c)
  in_order c = keeps_order number (arranged number c) c (arranges c)

  -- what comes out in this order stands for the arrivals that a queue of times holds, and for those of a heap
  pub comes : (c : Nodes X) → Stands by (Holds by c) (arranged number c)
  comes c = stands_for by c (arranged number c) (arranges c)

  pub comes_of_heap : (lines : List (Nodes X)) (a : Nodes X) → heap.Holds by lines a → Stands by (heap.Holds by lines) (arranged number (flat lines))
  comes_of_heap lines a some = heap_stands by lines (arranged number (flat lines)) a (arranges (flat lines)) some

  -- c was held, and d is; the arrivals that both stand for tell what a call did
  module _ (c d : Nodes X) (Held Left : Nodes X → Type 0) (was : Stands by Held (arranged number c)) (is : Stands by Left (arranged number d)) where
    pub pushed : (q : Ptr) (e : Element X) → ((a : Nodes X) → Held a → Left (a ++ (q, e) ∷ []))
        → arranged number d ≡ placed number q e (arranged number c)
    pushed q e h =
        let s = arranged number c in let n : Ptr × Element X = (q, e) in
        same_nodes (lawful number) (s ++ n ∷ []) (arranged number d) (placed number q e s)
        (one_more (lawful number) Held s was Left (arranged number d) is n h)
        (places number q e s s (stands number s (in_order c)))

    pub removed : (p : Ptr) (e : Element X)
        → ((a : Nodes X) → Held a → (rest : Nodes X) × (IsTaken a p e rest × Left rest))
        → IsTaken (arranged number c) p e (arranged number d)
    removed p e h = one_less (lawful number) Held (arranged number c) was Left (arranged number d) is p e h

    pub popped : (p : Ptr) (e : Element X)
        → ((a : Nodes X) → Held a → (rest : Nodes X) × (IsEarliestLeast (precedes by) a (p, e) rest × Left rest))
        → arranged number c ≡ (p, e) ∷ arranged number d
    popped p e h = first_less (lawful number) Held (arranged number c) was Left (arranged number d) is (p, e) h

    pub stayed : ((a : Nodes X) → Held a → Left a) → arranged number d ≡ arranged number c
    stayed h = all_same (lawful number) Held (arranged number c) was Left (arranged number d) is h

    -- one was taken out, and came again as another
    pub changed : (p : Ptr) (e w : Element X)
        → ((a : Nodes X) → Held a → (left : Nodes X) × (IsTaken a p e left × Left (left ++ (p, w) ∷ [])))
        → (left : Nodes X) × IsTaken (arranged number c) p e left × (arranged number d ≡ placed number p w left)
    changed p e w h =
        let s = arranged number c in let o = lawful number in
        let (left, (taken, held)) = h s was.held in
        let (_, (_, up)) = arranges_taken o s left s p e taken (stands number s (in_order c)) in
        let own : Arranges by left left = arranges_itself o left up.in_order in (
          left,
          taken,
          same_nodes o (left ++ (p, w) ∷ []) (arranged number d) (placed number p w left) (is.arranges (left ++ (p, w) ∷ []) held) (places number p w left left own),
        )

  -- ---- the same nodes
  pub placed_taken : (q : Ptr) (e : Element X) (s : Nodes X) → IsTaken (placed number q e s) q e s
  placed_taken q e [] = ([], [], refl, refl)
  placed_taken q e (x ∷ s) =
      let put : Bool → Nodes X = λ b. cond b ((q, e) ∷ x ∷ s) (x ∷ placed number q e s) in
      let (front, back, is, parts) = placed_taken q e s in
      by_test (nat_lt (number e.value) (number x.1.value)) (λ y. ([], x ∷ s, ap put y, refl)) (λ n. (x ∷ front, back, ap put n ∙ ap (λ l. x ∷ l) is, ap (λ l. x ∷ l) parts))

  one_kept : (q : Ptr) (e : Element X) (s : Nodes X) → IsPermutation (placed number q e s) ((q, e) ∷ s)
  one_kept q e s =
      let (front, back, put, parts) = placed_taken q e s in
      subst (λ (l : Nodes X × Nodes X). IsPermutation l.0 ((q, e) ∷ l.1)) (λ i. (sym put i, sym parts i)) (IsPermutation-middle front (q, e) back)

  all_kept : (c s : Nodes X) → IsPermutation (placed_all number s c) (s ++ c)
  all_kept [] s = subst (IsPermutation s) (sym (append-nil s)) (IsPermutation-refl s)
  all_kept (n ∷ c) s =
      let next : Nodes X = placed number n.0 n.1 s in
      IsPermutation-trans _ _ _ (all_kept c next) (IsPermutation-trans _ _ _ (IsPermutation-append_left c next (n ∷ s) (one_kept n.0 n.1 s)) (IsPermutation-sym _ _ (IsPermutation-middle s n c)))

  pub kept : (c : Nodes X) → IsPermutation (arranged number c) c
  kept c = all_kept c []

  pub as_long : (c : Nodes X) → length (arranged number c) ≡ length c
  as_long c = sym (length_permutation (arranged number c) c (kept c))

  -- what holds of all
  pub all_of : (P : Ptr × Element X → Type 0) (c : Nodes X) → AllByRecursion P c → AllByRecursion P (arranged number c)
  all_of P c h = recursion_from_All P (arranged number c) (All-permutation P c (arranged number c) (IsPermutation-sym (arranged number c) c (kept c)) (All-from_recursion P c h))
