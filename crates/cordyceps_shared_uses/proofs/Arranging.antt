-- The order in which the timers of a queue fire: what the queue's calls make of it, and that it has the same timers.
use Rattle.std.proofs.Common.{◌≡◌, ℕ, ◌<◌, max, Bool, true, false, cond, nat_lt, refl, [], ◌∷◌, ◌++◌, length, Option, Some, None, MatchOption, IsPermutation, ap, sym, ◌∙◌, subst}
use Rattle.std.proofs.lemmas.List.{append-nil, append_assoc}
use Rattle.std.proofs.lemmas.List.Elements.{All-from_recursion, recursion_from_All}
use Rattle.std.proofs.lemmas.List.Sorted.{All-permutation, IsPermutation-append_left, IsPermutation-middle, IsPermutation-refl, IsPermutation-sym, IsPermutation-trans, length_permutation}
use Rattle.std.specs.List.{AllByRecursion}
use denote.RawPtr.{Ptr}
use Rattle.cordyceps.specs.Elements.Element.{Element}
use Rattle.cordyceps.specs.Elements.Nodes.{Nodes, spots}
use Rattle.cordyceps.specs.Orders.Arrangement.{IsEarliestLeast}
use Rattle.cordyceps.specs.Spots.Agreeing.{HasElementAt}
use Rattle.cordyceps.specs.Spots.Arranged.{precedes, Arranges}
use Rattle.cordyceps.specs.Spots.BySpot.{HasSpot, HoldsAt, IsTaken}
use Rattle.cordyceps.specs.Spots.Clock.{Holds}
use Rattle.cordyceps.specs.Spots.Spots.{AreDistinct}
use Rattle.cordyceps.proofs.Spots.Apart.{permuted_distinct}
use Rattle.cordyceps.proofs.Spots.Arranged.{same_nodes}
use Rattle.cordyceps.proofs.Spots.Arrivals.{Stands, all_same, first_less, first_of, one_less, one_more, stands_for}
use Rattle.cordyceps.proofs.Spots.Holding.{unique}
use Rattle.cordyceps.proofs.Spots.Kept.{permuted_has}
use Rattle.cordyceps_shared_uses.specs.declared.timers.Timer.{Timer}
use Rattle.cordyceps_shared_uses.specs.Timers.{InOrder, arranged, due, first_time, started, started_all, time_of}
use Rattle.cordyceps_shared_uses.proofs.Deadlines.{by_time, keeps_order, lawful, none_due, stands, starts}
use Rattle.cordyceps_shared_uses.proofs.Started.{started_taken}

-- ---- the order in which timers fire
module _ {P : Type 0} (clock : ℕ) where
  arranges_all : (more s a : Nodes (Timer P)) → Arranges (by_time clock) s a → Arranges (by_time clock) (started_all clock s more) (a ++ more)
  arranges_all [] s a h = subst (Arranges (by_time clock) s) (sym (append-nil a)) h
  arranges_all (n ∷ more) s a h =
      let next : Nodes (Timer P) = started clock n.0 n.1 s in
      subst (Arranges (by_time clock) (started_all clock next more)) (append_assoc a (n ∷ []) more) (arranges_all more next (a ++ n ∷ []) (starts clock n.0 n.1 s a h))

  arranges : (c : Nodes (Timer P)) → Arranges (by_time clock) (arranged clock c) c
  arranges c = arranges_all c [] [] (stands clock [] tt)

  pub in_order : (c : Nodes (Timer P)) → InOrder clock (arranged clock c)
  in_order c = keeps_order clock (arranged clock c) c (arranges c)

  -- what comes out in this order stands for the arrivals that a queue holds
  fires : (c : Nodes (Timer P)) → Stands (by_time clock) (Holds (by_time clock) c) (arranged clock c)
  fires c = stands_for (by_time clock) c (arranged clock c) (arranges c)

  module _ (c d : Nodes (Timer P)) where
    pub pushed : (q : Ptr) (t : Element (Timer P))
        → ((a : Nodes (Timer P)) → Holds (by_time clock) c a → Holds (by_time clock) d (a ++ (q, t) ∷ []))
        → arranged clock d ≡ started clock q t (arranged clock c)
    pushed q t h =
        let s = arranged clock c in let n : Ptr × Element (Timer P) = (q, t) in
        same_nodes (lawful clock) (s ++ n ∷ []) (arranged clock d) (started clock q t s)
        (one_more (lawful clock) (Holds (by_time clock) c) s (fires c) (Holds (by_time clock) d) (arranged clock d) (fires d) n h)
        (starts clock q t s s (stands clock s (in_order c)))

    pub removed : (p : Ptr) (t : Element (Timer P))
        → ((a : Nodes (Timer P)) → Holds (by_time clock) c a
        → (rest : Nodes (Timer P)) × (IsTaken a p t rest × Holds (by_time clock) d rest))
        → IsTaken (arranged clock c) p t (arranged clock d)
    removed p t h =
        one_less (lawful clock) (Holds (by_time clock) c) (arranged clock c) (fires c) (Holds (by_time clock) d) (arranged clock d) (fires d) p t h

    pub popped : (p : Ptr) (t : Element (Timer P))
        → ((a : Nodes (Timer P)) → Holds (by_time clock) c a
        → (rest : Nodes (Timer P))
        × (IsEarliestLeast (precedes (by_time clock)) a (p, t) rest × Holds (by_time clock) d rest))
        → arranged clock c ≡ (p, t) ∷ arranged clock d
    popped p t h =
        first_less (lawful clock) (Holds (by_time clock) c) (arranged clock c) (fires c) (Holds (by_time clock) d) (arranged clock d) (fires d)
        (p, t) h

    pub stayed : ((a : Nodes (Timer P)) → Holds (by_time clock) c a → Holds (by_time clock) d a) → arranged clock d ≡ arranged clock c
    stayed h =
        all_same (lawful clock) (Holds (by_time clock) c) (arranged clock c) (fires c) (Holds (by_time clock) d) (arranged clock d) (fires d) h

  -- ---- the same timers, at the same spots
  one_kept : (q : Ptr) (t : Element (Timer P)) (s : Nodes (Timer P)) → IsPermutation (started clock q t s) ((q, t) ∷ s)
  one_kept q t s =
      let (front, back, put, parts) = started_taken clock q t s in
      subst (λ (l : Nodes (Timer P) × Nodes (Timer P)). IsPermutation l.0 ((q, t) ∷ l.1)) (λ i. (sym put i, sym parts i)) (IsPermutation-middle front (q, t) back)

  all_kept : (c s : Nodes (Timer P)) → IsPermutation (started_all clock s c) (s ++ c)
  all_kept [] s = subst (IsPermutation s) (sym (append-nil s)) (IsPermutation-refl s)
  all_kept (n ∷ c) s =
      let next : Nodes (Timer P) = started clock n.0 n.1 s in
      IsPermutation-trans _ _ _ (all_kept c next) (IsPermutation-trans _ _ _ (IsPermutation-append_left c next (n ∷ s) (one_kept n.0 n.1 s)) (IsPermutation-sym _ _ (IsPermutation-middle s n c)))

  pub kept : (c : Nodes (Timer P)) → IsPermutation (arranged clock c) c
  kept c = all_kept c []

  pub as_long : (c : Nodes (Timer P)) → length (arranged clock c) ≡ length c
  as_long c = sym (length_permutation (arranged clock c) c (kept c))

  pub has : (c : Nodes (Timer P)) (p : Ptr) → HasSpot (arranged clock c) p → HasSpot c p
  has c p h = permuted_has (arranged clock c) c p (kept c) h

  pub none_due_of : (now : ℕ) (c : Nodes (Timer P)) → AllByRecursion (λ n. now < time_of clock n.1) c → due clock now (arranged clock c) ≡ []
  none_due_of now c h =
      let later : Ptr × Element (Timer P) → Type 0 = λ n. now < time_of clock n.1 in
      none_due clock now (arranged clock c) (recursion_from_All later (arranged clock c) (All-permutation later c (arranged clock c) (IsPermutation-sym (arranged clock c) c (kept c)) (All-from_recursion later c h)))

  pub distinct : (c : Nodes (Timer P)) → AreDistinct (spots c) → AreDistinct (spots (arranged clock c))
  distinct c h = permuted_distinct c (arranged clock c) (IsPermutation-sym (arranged clock c) c (kept c)) h

  -- the time of the first, read at its spot
  pub first_read : (c : Nodes (Timer P)) (p : Ptr) (w : Timer P) → AreDistinct (spots c) → HoldsAt c p w
      → (e : Element (Timer P)) × HasElementAt c p e × ((a : Nodes (Timer P)) → Holds (by_time clock) c a → (rest : Nodes (Timer P)) × IsEarliestLeast (precedes (by_time clock)) a (p, e) rest)
      → first_time clock (arranged clock c) ≡ Some (max w.deadline clock)
  first_read c p w apart (before, id, after, holds) (e, (front, back, lies), first) =
      let same = unique front back before after p e (record { id = id; value = w }) (sym lies ∙ holds) (subst (λ l. AreDistinct (spots l)) lies apart) in
      let (_, is) = first_of (lawful clock) (Holds (by_time clock) c) (arranged clock c) (fires c) (p, e) first in
      ap (first_time clock) is ∙ ap (λ (x : Element (Timer P)). Some (time_of clock x)) same.1

-- ---- a clock that is later, while no timer fires at another time
module _ {P : Type 0} (clock later : ℕ) where
  abbrev pub FireAsBefore : Nodes (Timer P) → Type 0
  FireAsBefore c = AllByRecursion (λ n. time_of later n.1 ≡ time_of clock n.1) c

  started_same : (q : Ptr) (t : Element (Timer P)) (s : Nodes (Timer P)) → time_of later t ≡ time_of clock t → FireAsBefore s → started later q t s ≡ started clock q t s
  started_same q t [] e h = refl
  started_same q t (x ∷ s) e h = λ i. cond (nat_lt (e i) (h.0 i)) ((q, t) ∷ x ∷ s) (x ∷ started_same q t s e h.1 i)

  one_more_fires : (q : Ptr) (t : Element (Timer P)) (s : Nodes (Timer P)) → time_of later t ≡ time_of clock t → FireAsBefore s → FireAsBefore (started clock q t s)
  one_more_fires q t [] e h = (e, tt)
  one_more_fires q t (x ∷ s) e h = put (nat_lt (time_of clock t) (time_of clock x.1)) (one_more_fires q t s e h.1) where
    put : (b : Bool) → FireAsBefore (started clock q t s) → FireAsBefore (cond b ((q, t) ∷ x ∷ s) (x ∷ started clock q t s))
    put true on = (e, h)
    put false on = (h.0, on)

  started_all_same : (more s : Nodes (Timer P)) → FireAsBefore s → FireAsBefore more → started_all later s more ≡ started_all clock s more
  started_all_same [] s h k = refl
  started_all_same (n ∷ more) s h k =
      ap (λ l. started_all later l more) (started_same n.0 n.1 s k.0 h) ∙ started_all_same more (started clock n.0 n.1 s) (one_more_fires n.0 n.1 s k.0 h) k.1

  pub arranged_same : (c : Nodes (Timer P)) → FireAsBefore c → arranged later c ≡ arranged clock c
  arranged_same c h = started_all_same c [] tt h

-- what holds of an answer, where it follows from what was told of it
pub so : {T : Type 0} {A B : Type 0} {P Q : T → Type 0} (o : Option T) → MatchOption o A P → (A → B) → ((t : T) → P t → Q t) → MatchOption o B Q
so None told none some = none told
so (Some t) told none some = some t told
