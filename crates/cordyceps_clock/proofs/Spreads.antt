-- A step of a spread: the first of the nodes ahead is moved to the end of its bucket.
use Rattle.std.proofs.Common.{Bool, true, false, ◌≡◌, ℕ, suc, length, MatchOption, ◌<◌, ◌≤◌, ◌^◌, List, [], ◌∷◌, ◌++◌, Option, Some, None, get_or, refl, sym, ap, ◌∙◌, subst, arith}
use Rattle.std.specs.Cmp.{IsStrictWeakOrder, nat_cmp_total}
use Rattle.std.specs.List.{AllByRecursion, filter}
use Rattle.std.specs.List.Sorted.{IsPermutation, IsStableBy, ties}
use Rattle.std.specs.Ordering.{nat_cmp}
use Rattle.std.proofs.lemmas.List.Elements.{filter-append, All-from_recursion, recursion_from_All}
use Rattle.std.proofs.lemmas.List.Sorted.{All-permutation, IsPermutation-sym, IsPermutation-trans, IsPermutation-middle}
use Rattle.std.proofs.lemmas.List.{append_assoc, append-nil}
use denote.RawPtr.{Ptr}
use Rattle.cordyceps_base.specs.BySpot.{HasSpot, IsMovedFront, IsMovedAfter, IsFirst, IsLast, AreNext}
use Rattle.cordyceps_base.specs.Element.{Element}
use Rattle.cordyceps_base.specs.Nodes.{Nodes, spots}
use Rattle.cordyceps_base.specs.Spots.{AreDistinct}
use Rattle.cordyceps_single.specs.ByKey.{by_key}
use Rattle.cordyceps_single.specs.Preorder.{IsPreorder, by_key_lawful}
use Rattle.cordyceps_single.proofs.Preorder.{by_test, ranks}
use Rattle.cordyceps_single.proofs.Keys.{at_most}
use Rattle.cordyceps_stable.specs.Arranged.{precedes}
use Rattle.cordyceps_stable.proofs.Classes.{all_weaker, all_front, all_back, in_class, out_of_class, none_in, tie_parts}
use Rattle.cordyceps_stable.proofs.Holding.{distinct_less, spot_is_at, unique, taken_gone}
use Rattle.cordyceps_clock.specs.Buckets.{last_spot, number_at, AreDue, IsKept, IsMovedIn, IsNearest, IsPutIn, IsSet, IsSpreading}
use Rattle.cordyceps_clock.proofs.Numbers.{earlier}
use Rattle.cordyceps_clock.proofs.Puts.{left_is}
use Rattle.cordyceps_clock.proofs.Rows.{Parted, parted, kept_put, row_below}

module _ {X : Type 0} (number : Ptr × Element X → ℕ) where
  -- the nodes up to a bucket are all done ones, where the others lie above it
  prefix : (done rest low high : Nodes X) (k : ℕ) → done ++ rest ≡ low ++ high → AllByRecursion (λ n. k < number n) rest → AllByRecursion (λ n. number n ≤ k) low → (mid : Nodes X) × (done ≡ low ++ mid) × (high ≡ mid ++ rest)
  prefix done rest [] high k is above upto = (done, refl, sym is)
  prefix [] [] (y ∷ low) high k is above upto = absurd cc
  prefix [] (x ∷ rest) (y ∷ low) high k is above upto =
      let same : x ≡ y = cc in absurd (omega (arith, above.0, upto.0, ap number same))
  prefix (x ∷ done) rest (y ∷ low) high k is above upto =
      let same : x ≡ y = cc in let others : done ++ rest ≡ low ++ high = cc in
      let (mid, first, second) = prefix done rest low high k others above upto.1 in
      (mid, (λ i. same i ∷ first i), second)

  higher : (j k : ℕ) (others : Nodes X) → k ≤ j → AllByRecursion (λ n. j < number n) others → AllByRecursion (λ n. k < number n) others
  higher j k others le h = all_weaker (λ n. j < number n) (λ n. k < number n) (λ n q. omega (arith, q, le)) others h

  -- where a node of the bucket k comes: within the done ones
  record Goes (k : ℕ) (done others : Nodes X) (o : Option Ptr) : Type 0 where
    parts : Parted number k (done ++ others) o
    mid : Nodes X
    first : done ≡ parts.low ++ mid
    second : parts.high ≡ mid ++ others

  goes : (ends : List (Option Ptr)) (done others : Nodes X) (j k : ℕ) (o : Option Ptr) → k < 65 → k ≤ j → IsKept number ends (done ++ others) → AllByRecursion (λ n. j < number n) others → IsNearest ends k o → Goes k done others o
  goes ends done others j k o small le kept high near =
      let p = parted number ends (done ++ others) k o small kept near in
      let (mid, first, second) = prefix done others p.low p.high k p.is (higher j k others le high) p.upto in
      record { parts = p; mid = mid; first = first; second = second }

  -- the node lies among the done ones now
  stepped : (ends new : List (Option Ptr)) (d done ahead others : Nodes X) (p : Ptr) (e : Element X) (j k : ℕ) (o : Option Ptr) → k ≤ j → number (p, e) ≡ k → IsSet ends new k p → IsKept number ends (done ++ others) → AllByRecursion (λ n. number n ≤ j) ahead → AllByRecursion (λ n. j < number n) others
      → (g : Goes k done others o) → d ≡ (g.parts.low ++ (p, e) ∷ g.mid) ++ (ahead ++ others) → (clock : Nodes X) × IsSpreading number new d j clock ahead others × IsPutIn number k done p e clock
  stepped ends new d done ahead others p e j k o le numbered set kept low high g is =
      let l = g.parts.low in let clock : Nodes X = l ++ (p, e) ∷ g.mid in
      let shown : clock ++ others ≡ l ++ (p, e) ∷ g.parts.high = append_assoc l ((p, e) ∷ g.mid) others ∙ ap (λ s. l ++ (p, e) ∷ s) (sym g.second) in
      let put = kept_put number ends new l g.parts.high (p, e) k numbered g.parts.upto g.parts.above set.0 set.1 (subst (IsKept number ends) g.parts.is kept) in (
        clock,
        record { parts = is; kept = subst (IsKept number new) (sym shown) put; low = low; high = high },
        (l, g.mid, g.first, refl, above_mid k g.mid others (subst (AllByRecursion (λ n. k < number n)) g.second g.parts.above)),
      ) where
        above_mid : (k : ℕ) (mid others : Nodes X) → AllByRecursion (λ n. k < number n) (mid ++ others) → AllByRecursion (λ n. k < number n) mid
        above_mid k [] others h = tt
        above_mid k (x ∷ mid) others h = (h.0, above_mid k mid others h.1)

  module _ (ends : List (Option Ptr)) (c done ahead others : Nodes X) (p : Ptr) (e : Element X) (j k : ℕ) (small : k < 65) (distinct : AreDistinct (spots c))
      (s : IsSpreading number ends c j done ((p, e) ∷ ahead) others) (numbered : number (p, e) ≡ k) where
    le : k ≤ j
    le = omega (arith, s.low.0, numbered)

    -- the nearest end is another node
    pub end_has : (to : Ptr) → IsNearest ends k (Some to) → HasSpot (done ++ (ahead ++ others)) to
    end_has to near =
        let g = goes ends done others j k (Some to) small le s.kept s.high near in let (front, y, low) = g.parts.end in
        spot_is_at (done ++ (ahead ++ others)) to y (
          front,
          g.mid ++ (ahead ++ others),
          ap (λ l. l ++ (ahead ++ others)) (g.first ∙ ap (λ l. l ++ g.mid) low ∙ append_assoc front ((to, y) ∷ []) g.mid) ∙ append_assoc front ((to, y) ∷ g.mid) (ahead ++ others),
        )

    pub end_there : (to : Ptr) → IsNearest ends k (Some to) → HasSpot c to
    end_there to near =
        let g = goes ends done others j k (Some to) small le s.kept s.high near in let (front, y, low) = g.parts.end in
        let more : Nodes X = (p, e) ∷ (ahead ++ others) in
        spot_is_at c to y (
          front,
          g.mid ++ more,
          s.parts ∙ ap (λ l. l ++ more) (g.first ∙ ap (λ l. l ++ g.mid) low ∙ append_assoc front ((to, y) ∷ []) g.mid) ∙ append_assoc front ((to, y) ∷ g.mid) more,
        )

    pub end_other : (to : Ptr) → IsNearest ends k (Some to) → p ≡ to → ⊥
    end_other to near same =
        let rest : Nodes X = done ++ (ahead ++ others) in
        taken_gone c rest p e distinct (done, ahead ++ others, s.parts, refl) (subst (HasSpot rest) (sym same) (end_has to near))

    placed_after : (new : List (Option Ptr)) (d : Nodes X) (to : Ptr) → IsNearest ends k (Some to) → IsMovedAfter c p to d → IsSet ends new k p → (clock : Nodes X) × IsSpreading number new d j clock ahead others × IsPutIn number k done p e clock
    placed_after new d to near (x, rest, taken, (before, o, after, was, is)) set =
        let g = goes ends done others j k (Some to) small le s.kept s.high near in let (front, y, low) = g.parts.end in
        let more : Nodes X = ahead ++ others in
        let left = left_is c done more rest p e x distinct s.parts taken in
        let whole : rest ≡ front ++ (to, y) ∷ (g.mid ++ more) =
        left.1 ∙ ap (λ l. l ++ more) (g.first ∙ ap (λ l. l ++ g.mid) low ∙ append_assoc front ((to, y) ∷ []) g.mid) ∙ append_assoc front ((to, y) ∷ g.mid) more in
        let differ : AreDistinct (spots rest) = subst (λ l. AreDistinct (spots l)) (sym left.1) (distinct_less done more (p, e) (subst (λ l. AreDistinct (spots l)) s.parts distinct)) in
        let (first, own, last) = unique before after front (g.mid ++ more) to o y (sym was ∙ whole) (subst (λ l. AreDistinct (spots l)) was differ) in
        let put : d ≡ (g.parts.low ++ (p, e) ∷ g.mid) ++ more =
        is ∙ (λ i. first i ++ (to, own i) ∷ (p, sym left.0 i) ∷ last i) ∙ sym (append_assoc front ((to, y) ∷ []) ((p, e) ∷ (g.mid ++ more))) ∙ ap (λ l. l ++ (p, e) ∷ (g.mid ++ more)) (sym low) ∙ sym (append_assoc g.parts.low ((p, e) ∷ g.mid) more) in
        stepped ends new d done ahead others p e j k (Some to) le numbered set s.kept s.low.1 s.high g put

    placed_first : (new : List (Option Ptr)) (d : Nodes X) → IsNearest ends k None → IsMovedFront c p d → IsSet ends new k p → (clock : Nodes X) × IsSpreading number new d j clock ahead others × IsPutIn number k done p e clock
    placed_first new d near (x, rest, taken, is) set =
        let g = goes ends done others j k None small le s.kept s.high near in
        let more : Nodes X = ahead ++ others in
        let left = left_is c done more rest p e x distinct s.parts taken in
        let put : d ≡ (g.parts.low ++ (p, e) ∷ g.mid) ++ more =
        is ∙ (λ i. (p, sym left.0 i) ∷ left.1 i) ∙ ap (λ l. (p, e) ∷ (l ++ more)) (g.first ∙ ap (λ l. l ++ g.mid) g.parts.end) ∙ ap (λ l. (l ++ (p, e) ∷ g.mid) ++ more) (sym g.parts.end) in
        stepped ends new d done ahead others p e j k None le numbered set s.kept s.low.1 s.high g put

    pub placed_in : (new : List (Option Ptr)) (d : Nodes X) → IsMovedIn ends k c p d → IsSet ends new k p → (clock : Nodes X) × IsSpreading number new d j clock ahead others × IsPutIn number k done p e clock
    placed_in new d m set = go m.end m.nearest m.moved where
      go : (o : Option Ptr) → IsNearest ends k o → MatchOption o (IsMovedFront c p d) (λ to. IsMovedAfter c p to d) → (clock : Nodes X) × IsSpreading number new d j clock ahead others × IsPutIn number k done p e clock
      go None near moved = placed_first new d near moved set
      go (Some to) near moved = placed_after new d to near moved set

-- ---- the classes of equals
module _ {A : Type 0} (lt : A → A → Bool) (o : IsStrictWeakOrder lt) where
  -- what n is below is in no class of n
  class_gone : (n z : A) (ys : List A) → ties lt z n ≡ true → AllByRecursion (λ y. lt n y ≡ true) ys → filter (ties lt z) ys ≡ []
  class_gone n z ys t q =
      none_in (ties lt z) ys (all_weaker (λ y. lt n y ≡ true) (λ y. ties lt z y ≡ false) (λ y w. by_test (ties lt z y) (λ v. let c = o.chain n z y (tie_parts lt o z n t).1 (tie_parts lt o z y v).0 in absurd cc) (λ v. v)) ys q)

  -- a node goes before others that it is less than
  passes : (high ahead : List A) (n z : A) → AllByRecursion (λ y. lt n y ≡ true) high → filter (ties lt z) (n ∷ (high ++ ahead)) ≡ filter (ties lt z) (high ++ n ∷ ahead)
  passes high ahead n z h = let t = ties lt z in
      let there = filter-append t high (n ∷ ahead) in let here = filter-append t high ahead in
      by_test (t n)
      (λ v.
      let gone = class_gone n z high v h in
      in_class t n (high ++ ahead) v ∙ ap (λ l. n ∷ l) (here ∙ ap (λ l. l ++ filter t ahead) gone) ∙ sym (there ∙ (λ i. gone i ++ in_class t n ahead v i)))
      (λ f. out_of_class t n (high ++ ahead) f ∙ here ∙ sym (there ∙ ap (λ l. filter t high ++ l) (out_of_class t n ahead f)))

  pub stable_put : (first low high ahead : List A) (n : A) → AllByRecursion (λ y. lt n y ≡ true) high → IsStableBy lt first ((low ++ high) ++ n ∷ ahead) → IsStableBy lt first ((low ++ n ∷ high) ++ ahead)
  stable_put first low high ahead n h stable z = let t = ties lt z in
      ap (filter t) (append_assoc low (n ∷ high) ahead) ∙ filter-append t low (n ∷ (high ++ ahead)) ∙ ap (λ l. filter t low ++ l) (passes high ahead n z h) ∙ sym (filter-append t low (high ++ n ∷ ahead)) ∙ ap (filter t) (sym (append_assoc low high (n ∷ ahead))) ∙ stable z

module _ {A : Type 0} where
  pub moved_put : (first low high ahead : List A) (n : A) → IsPermutation first ((low ++ high) ++ n ∷ ahead) → IsPermutation first ((low ++ n ∷ high) ++ ahead)
  moved_put first low high ahead n moved =
      let was = (low ++ high) ++ n ∷ ahead in let is = (low ++ n ∷ high) ++ ahead in let mid = n ∷ ((low ++ high) ++ ahead) in
      let back : IsPermutation is mid = subst (λ (l : List A × List A). IsPermutation l.0 l.1) (λ i. (sym (append_assoc low (n ∷ high) ahead) i, n ∷ sym (append_assoc low high ahead) i)) (IsPermutation-middle low n (high ++ ahead)) in
      IsPermutation-trans first was is moved (IsPermutation-trans was mid is (IsPermutation-middle (low ++ high) n ahead) (IsPermutation-sym is mid back))

  pub permuted : (P : A → Type 0) (xs ys : List A) → IsPermutation xs ys → AllByRecursion P xs → AllByRecursion P ys
  permuted P xs ys h p = recursion_from_All P ys (All-permutation P xs ys h (All-from_recursion P xs p))

module _ {X : Type 0} (of : X → ℕ) where
  pub key_lawful : IsPreorder (by_key nat_cmp of)
  key_lawful = by_key_lawful nat_cmp_total of

  pub times_rank : IsStrictWeakOrder (precedes (by_key nat_cmp of))
  times_rank = ranks key_lawful (λ (m : Ptr × Element X). m.1.value)

  pub before : (n m : Ptr × Element X) → of n.1.value < of m.1.value → precedes (by_key nat_cmp of) n m ≡ true
  before n m less = by_test (precedes (by_key nat_cmp of) n m) (λ t. t) (λ f. let le = at_most (of n.1.value) (of m.1.value) f in absurd (omega (arith, less, le)))

  -- ---- where a spread stands
  pub record Stands (clock : ℕ) (ends : List (Option Ptr)) (c : Nodes X) (j : ℕ) (first others : Nodes X) (at : Option Ptr) (left : ℕ) : Type 0 where
    pub done : Nodes X
    pub ahead : Nodes X
    pub spreading : IsSpreading (number_at of clock) ends c j done ahead others
    pub long : length ahead ≡ left
    pub next : MatchOption at (ahead ++ others ≡ []) (λ q. IsFirst (ahead ++ others) q)
    pub stable : IsStableBy (precedes (by_key nat_cmp of)) first (done ++ ahead)
    pub moved : IsPermutation first (done ++ ahead)

  -- so far no done node is in a bucket above top
  pub record Spread (clock : ℕ) (ends : List (Option Ptr)) (c : Nodes X) (j : ℕ) (first others : Nodes X) (at : Option Ptr) (left top : ℕ) : Type 0 where
    pub stands : Stands clock ends c j first others at left
    pub empty : (i : ℕ) → top < i → i ≤ j → i < 65 → get_or ends i None ≡ None

  -- the buckets of the nodes ahead are empty where a spread begins
  pub empty_first : (clock : ℕ) (ends : List (Option Ptr)) (c : Nodes X) (j : ℕ) (ahead others : Nodes X) → IsSpreading (number_at of clock) ends c j [] ahead others → (i : ℕ) → i ≤ j → i < 65 → get_or ends i None ≡ None
  empty_first clock ends c j ahead others s i upto small =
      s.kept.last i small ∙ ap last_spot (row_below (number_at of clock) i others (higher (number_at of clock) j i others upto s.high))

  module _ (clock : ℕ) (ends : List (Option Ptr)) (c : Nodes X) (j : ℕ) (first others : Nodes X) where
    -- the first of the nodes ahead
    pub record Turn (at : Ptr) (left : ℕ) : Type 0 where
      pub done : Nodes X
      pub e : Element X
      pub ahead : Nodes X
      pub spreading : IsSpreading (number_at of clock) ends c j done ((at, e) ∷ ahead) others
      pub long : suc (length ahead) ≡ left
      pub stable : IsStableBy (precedes (by_key nat_cmp of)) first (done ++ (at, e) ∷ ahead)
      pub moved : IsPermutation first (done ++ (at, e) ∷ ahead)

    pub turn : (at : Ptr) (left : ℕ) → 0 < left → Stands clock ends c j first others (Some at) left → Turn at left
    turn at left some s = go s.ahead s.spreading s.long s.next s.stable s.moved where
      go : (ahead : Nodes X) → IsSpreading (number_at of clock) ends c j s.done ahead others → length ahead ≡ left → IsFirst (ahead ++ others) at → IsStableBy (precedes (by_key nat_cmp of)) first (s.done ++ ahead) → IsPermutation first (s.done ++ ahead) → Turn at left
      go [] t long next stable moved = absurd (omega (arith, some, long))
      go (n ∷ ahead) t long (e, after, is) stable moved =
          let same : n ≡ (at, e) = cc in
          record {
            done = s.done;
            e = e;
            ahead = ahead;
            spreading = subst (λ m. IsSpreading (number_at of clock) ends c j s.done (m ∷ ahead) others) same t;
            long = long;
            stable = subst (λ m. IsStableBy (precedes (by_key nat_cmp of)) first (s.done ++ m ∷ ahead)) same stable;
            moved = subst (λ m. IsPermutation first (s.done ++ m ∷ ahead)) same moved;
          }

    -- what comes after it
    pub next_is : (at : Ptr) (left : ℕ) (t : Turn at left) (o : Option Ptr) → AreDistinct (spots c) → MatchOption o (IsLast c at) (λ q. AreNext c at q) → MatchOption o (t.ahead ++ others ≡ []) (λ q. IsFirst (t.ahead ++ others) q)
    next_is at left t None distinct (front, x, is) =
        let (before, own, rest) = unique t.done (t.ahead ++ others) front [] at t.e x (sym t.spreading.parts ∙ is) (subst (λ l. AreDistinct (spots l)) t.spreading.parts distinct) in rest
    next_is at left t (Some q) distinct (front, x, y, after, is) =
        let (before, own, rest) = unique t.done (t.ahead ++ others) front ((q, y) ∷ after) at t.e x (sym t.spreading.parts ∙ is) (subst (λ l. AreDistinct (spots l)) t.spreading.parts distinct) in (y, after, rest)

    -- after its turn
    pub stands_on : (new : List (Option Ptr)) (d more : Nodes X) (at : Ptr) (left k : ℕ) (o : Option Ptr) (t : Turn at left) → clock < 2 ^ 64 → AreDue of clock first → number_at of clock (at, t.e) ≡ k
        → MatchOption o (t.ahead ++ others ≡ []) (λ q. IsFirst (t.ahead ++ others) q)
        → IsSpreading (number_at of clock) new d j more t.ahead others → IsPutIn (number_at of clock) k t.done at t.e more → (rest : ℕ) → suc rest ≡ left → Stands clock new d j first others o rest
    stands_on new d more at left k o t small due numbered next s (low, high, was, is, above) rest one =
        let N = number_at of clock in let n : Ptr × Element X = (at, t.e) in let lt = precedes (by_key nat_cmp of) in
        let InTime : Ptr × Element X → Type 0 = λ m. (clock ≤ of m.1.value) × (of m.1.value < 2 ^ 64) in
        let times = permuted InTime first (t.done ++ n ∷ t.ahead) t.moved due in
        let own : InTime n = (all_back InTime t.done (n ∷ t.ahead) times).0 in
        let highs : AllByRecursion InTime high = all_back InTime low high (subst (AllByRecursion InTime) was (all_front InTime t.done (n ∷ t.ahead) times)) in
        let passed : AllByRecursion (λ m. lt n m ≡ true) high = over high above highs numbered own in
        record {
          done = more;
          ahead = t.ahead;
          spreading = s;
          long = omega (arith, t.long, one);
          next = next;
          stable = subst (λ l. IsStableBy lt first (l ++ t.ahead)) (sym is) (stable_put lt times_rank first low high t.ahead n passed (subst (λ l. IsStableBy lt first (l ++ n ∷ t.ahead)) was t.stable));
          moved = subst (λ l. IsPermutation first (l ++ t.ahead)) (sym is) (moved_put first low high t.ahead n (subst (λ l. IsPermutation first (l ++ n ∷ t.ahead)) was t.moved));
        } where
          over : (high : Nodes X) → AllByRecursion (λ m. k < number_at of clock m) high → AllByRecursion (λ m. (clock ≤ of m.1.value) × (of m.1.value < 2 ^ 64)) high → number_at of clock (at, t.e) ≡ k → (clock ≤ of t.e.value) × (of t.e.value < 2 ^ 64) → AllByRecursion (λ m. precedes (by_key nat_cmp of) (at, t.e) m ≡ true) high
          over [] p q e own = tt
          over (m ∷ high) p q e own = (before (at, t.e) m (earlier clock (of t.e.value) (of m.1.value) small own.1 q.0.1 q.0.0 (omega (arith, p.0, e))), over high p.1 q.1 e own)

  module _ (clock : ℕ) (ends : List (Option Ptr)) (c : Nodes X) (j : ℕ) (first others : Nodes X) (at : Option Ptr) (left : ℕ) where
    -- no node is ahead
    pub ended : Stands clock ends c j first others at left → left ≡ 0 → (done : Nodes X) × IsSpreading (number_at of clock) ends c j done [] others × IsStableBy (precedes (by_key nat_cmp of)) first done × IsPermutation first done
    ended s none = go s.ahead s.spreading s.long s.stable s.moved where
      go : (ahead : Nodes X) → IsSpreading (number_at of clock) ends c j s.done ahead others → length ahead ≡ left → IsStableBy (precedes (by_key nat_cmp of)) first (s.done ++ ahead) → IsPermutation first (s.done ++ ahead)
          → (done : Nodes X) × IsSpreading (number_at of clock) ends c j done [] others × IsStableBy (precedes (by_key nat_cmp of)) first done × IsPermutation first done
      go [] t long stable moved = (s.done, t, subst (IsStableBy (precedes (by_key nat_cmp of)) first) (append-nil s.done) stable, subst (IsPermutation first) (append-nil s.done) moved)
      go (n ∷ ahead) t long stable moved = absurd (omega (arith, long, none))

    -- some are left, so there is a next one
    pub stuck : Stands clock ends c j first others None left → 0 < left → ⊥
    stuck s some = go s.ahead s.long s.next where
      go : (ahead : Nodes X) → length ahead ≡ left → ahead ++ others ≡ [] → ⊥
      go [] long none = absurd (omega (arith, long, some))
      go (n ∷ ahead) long none = absurd cc
