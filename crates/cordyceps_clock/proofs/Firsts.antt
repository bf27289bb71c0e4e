-- How the least time of the first bucket is found: the nodes that were seen, and those that are left.
use Rattle.std.proofs.Common.{◌≡◌, ℕ, ◌+◌, ◌<◌, ◌≤◌, [], ◌∷◌, ◌++◌, length, length-append, MatchOption, Option, Some, None, ◌⊎◌, refl, sym, ap, ◌∙◌, subst, inl, inr, arith}
use Rattle.std.specs.List.{AllByRecursion}
use Rattle.std.proofs.lemmas.List.{append_assoc}
use denote.RawPtr.{Ptr}
use Rattle.cordyceps_base.specs.BySpot.{HasSpot, HoldsAt, IsFirst, IsLast, AreNext}
use Rattle.cordyceps_base.specs.Element.{Element}
use Rattle.cordyceps_base.specs.Nodes.{Nodes, spots}
use Rattle.cordyceps_base.specs.Spots.{AreDistinct}
use Rattle.cordyceps_single.specs.ByKey.{AscendsBy}
use Rattle.cordyceps_stable.proofs.Classes.{all_append, all_back, all_weaker}
use Rattle.cordyceps_stable.proofs.Holding.{spot_is_at, unique}
use Rattle.cordyceps_clock.specs.Buckets.{bucket_of, number_at, IsFirstBucket}
use Rattle.cordyceps_clock.proofs.Ends.{held_is, value_is}
use Rattle.cordyceps_clock.proofs.Rows.{from_it}

-- the least time and its spot, once one more was seen
abbrev pub IsLesser : ℕ → Ptr → ℕ → Ptr → ℕ → Ptr → Type 0
IsLesser least p due q m r = ((due < least) × (m ≡ due) × (r ≡ q)) ⊎ ((least ≤ due) × (m ≡ least) × (r ≡ p))

module _ {X : Type 0} where
  -- the seen nodes, and those that are left, of which the first is at a spot
  pub record Seen (c : Nodes X) (len : ℕ) (at : Option Ptr) : Type 0 where
    pub seen : Nodes X
    pub left : Nodes X
    pub parts : c ≡ seen ++ left
    pub long : length seen ≡ len
    pub next : MatchOption at (left ≡ []) (λ q. IsFirst left q)

  -- and what is known of the seen ones
  abbrev pub Counted : Nodes X → ℕ → Option Ptr → (Nodes X → Type 0) → Type 0
  Counted c len at P = (s : Seen c len at) × P s.seen

  -- the seen ones are of the bucket k, least is the least of their times, and the first of that time is at p
  pub record IsLeastOf (of : X → ℕ) (clock k least : ℕ) (p : Ptr) (seen : Nodes X) : Type 0 where
    pub inside : AllByRecursion (λ n. (number_at of clock n ≡ k) × (least ≤ of n.1.value)) seen
    pub reached : (before : Nodes X) × (e : Element X) × (after : Nodes X) × (seen ≡ before ++ (p, e) ∷ after) × (of e.value ≡ least) × AllByRecursion (λ n. least < of n.1.value) before

  pub seen_has : (c : Nodes X) (len : ℕ) (q : Ptr) → Seen c len (Some q) → HasSpot c q
  seen_has c len q s = let (e, after, is) = s.next in spot_is_at c q e (s.seen, after, s.parts ∙ ap (λ l. s.seen ++ l) is)

  pub seen_below : (c : Nodes X) (len : ℕ) (q : Ptr) → Seen c len (Some q) → len < length c
  seen_below c len q s =
      let (e, after, is) = s.next in
      omega (arith, s.long, ap length s.parts ∙ length-append s.seen s.left, ap length is)

  pub next_of : (c front back : Nodes X) (p : Ptr) (e : Element X) (o : Option Ptr) → AreDistinct (spots c) → c ≡ front ++ (p, e) ∷ back → MatchOption o (IsLast c p) (λ q. AreNext c p q) → MatchOption o (back ≡ []) (λ q. IsFirst back q)
  next_of c front back p e None distinct is (f, x, at) =
      let (before, own, rest) = unique front back f [] p e x (sym is ∙ at) (subst (λ l. AreDistinct (spots l)) is distinct) in rest
  next_of c front back p e (Some q) distinct is (f, x, y, after, at) =
      let (before, own, rest) = unique front back f ((q, y) ∷ after) p e x (sym is ∙ at) (subst (λ l. AreDistinct (spots l)) is distinct) in (y, after, rest)

  abbrev pub seen_first : (c : Nodes X) (p : Ptr) (o : Option Ptr) → AreDistinct (spots c) → IsFirst c p → MatchOption o (IsLast c p) (λ q. AreNext c p q) → Seen c 1 o
  seen_first c p o distinct (e, after, is) on = record { seen = (p, e) ∷ []; left = after; parts = is; long = refl; next = next_of c [] after p e o distinct is on }

  abbrev pub seen_more : (c : Nodes X) (len : ℕ) (q : Ptr) (o : Option Ptr) → AreDistinct (spots c) → Seen c len (Some q) → MatchOption o (IsLast c q) (λ r. AreNext c q r) → Seen c (len + 1) o
  seen_more c len q o distinct s on =
      let (e, after, is) = s.next in
      let whole : c ≡ s.seen ++ (q, e) ∷ after = s.parts ∙ ap (λ l. s.seen ++ l) is in
      record {
        seen = s.seen ++ (q, e) ∷ [];
        left = after;
        parts = whole ∙ sym (append_assoc s.seen ((q, e) ∷ []) after);
        long = omega (arith, s.long, length-append s.seen ((q, e) ∷ []));
        next = next_of c s.seen after q e o distinct whole on;
      }

  module _ (of : X → ℕ) (clock k : ℕ) where
    abbrev Inside : ℕ → Ptr × Element X → Type 0
    Inside least n = (number_at of clock n ≡ k) × (least ≤ of n.1.value)

    pub least_first : (p : Ptr) (o : Element X) → number_at of clock (p, o) ≡ k → IsLeastOf of clock k (of o.value) p ((p, o) ∷ [])
    least_first p o e = record { inside = ((e, omega arith), tt); reached = ([], o, [], refl, refl, tt) }

    pub least_begun : (c after front : Nodes X) (p : Ptr) (e o : Element X) (v : X) (time : ℕ) → AreDistinct (spots c) → c ≡ (p, o) ∷ front → c ≡ (p, e) ∷ after → HoldsAt c p v → time ≡ of v → bucket_of clock (of e.value) ≡ k → IsLeastOf of clock k time p ((p, o) ∷ [])
    least_begun c after front p e o v time distinct was is holds due at =
        let both : (p, o) ∷ front ≡ (p, e) ∷ after = sym was ∙ is in let same : (p, o) ≡ (p, e) = cc in
        let value = value_is of clock k c [] front p o v distinct was holds in
        subst (λ t. IsLeastOf of clock k t p ((p, o) ∷ [])) (sym (due ∙ ap of value)) (least_first p o (ap (λ (n : Ptr × Element X). bucket_of clock (of n.1.value)) same ∙ at))

    pub least_more : (least m : ℕ) (p r : Ptr) (seen : Nodes X) (q : Ptr) (o : Element X) → number_at of clock (q, o) ≡ k → IsLesser least p (of o.value) q m r → IsLeastOf of clock k least p seen → IsLeastOf of clock k m r (seen ++ (q, o) ∷ [])
    least_more least m p r seen q o e lesser l =
        let d = of o.value in
        elim lesser [
          | inl new ↦ let (less, is, at) = new in record {
            inside = all_append (Inside m) seen ((q, o) ∷ []) (all_weaker (Inside least) (Inside m) (λ n h. (h.0, omega (arith, h.1, less, is))) seen l.inside) ((e, omega (arith, is)), tt);
            reached = subst (λ s. (before : Nodes X) × (x : Element X) × (after : Nodes X) × (seen ++ (q, o) ∷ [] ≡ before ++ (s, x) ∷ after) × (of x.value ≡ m) × AllByRecursion (λ n. m < of n.1.value) before) (sym at)
                (seen, o, [], refl, sym is, all_weaker (Inside least) (λ n. m < of n.1.value) (λ n h. omega (arith, h.1, less, is)) seen l.inside);
          }
          | inr old ↦ let (more, is, at) = old in let (before, x, after, lies, due, later) = l.reached in record {
            inside = all_append (Inside m) seen ((q, o) ∷ []) (all_weaker (Inside least) (Inside m) (λ n h. (h.0, omega (arith, h.1, is))) seen l.inside) ((e, omega (arith, more, is)), tt);
            reached = subst (λ s. (front : Nodes X) × (y : Element X) × (back : Nodes X) × (seen ++ (q, o) ∷ [] ≡ front ++ (s, y) ∷ back) × (of y.value ≡ m) × AllByRecursion (λ n. m < of n.1.value) front) (sym at)
                (before, x, after ++ (q, o) ∷ [], ap (λ s. s ++ (q, o) ∷ []) lies ∙ append_assoc before ((p, x) ∷ after) ((q, o) ∷ []), due ∙ sym is, all_weaker (λ n. least < of n.1.value) (λ n. m < of n.1.value) (λ n h. omega (arith, h, is)) before later);
          }
        ]

    -- where the bucket ends
    pub first_none : (c : Nodes X) (least : ℕ) (p : Ptr) (len : ℕ) (s : Seen c len None) → IsLeastOf of clock k least p s.seen → IsFirstBucket of clock k c least p len
    first_none c least p len s l = record { first = s.seen; others = s.left; parts = s.parts; long = s.long; inside = l.inside; reached = l.reached; outside = subst (AllByRecursion (λ n. k < number_at of clock n)) (sym s.next) tt }

    pub first_some : (c : Nodes X) (least : ℕ) (p : Ptr) (len : ℕ) (q : Ptr) (v : X) (time b : ℕ) (s : Seen c len (Some q)) → AreDistinct (spots c) → AscendsBy (number_at of clock) c → HoldsAt c q v → time ≡ of v → b ≡ bucket_of clock time → (b ≡ k → ⊥) → IsLeastOf of clock k least p s.seen → IsFirstBucket of clock k c least p len
    first_some c least p len q v time b s distinct ascends holds due at other l =
        let (e, after, is) = s.next in let N = number_at of clock in
        let whole : c ≡ s.seen ++ (q, e) ∷ after = s.parts ∙ ap (λ t. s.seen ++ t) is in
        let number : N (q, e) ≡ b = held_is of clock b c s.seen after q e v time distinct whole holds due at in
        let (before, x, back, has, reach, over) = l.reached in let m : Ptr × Element X = (p, x) in
        let inner = (all_back (Inside least) before (m ∷ back) (subst (AllByRecursion (Inside least)) has l.inside)).0 in
        let shown : c ≡ before ++ m ∷ (back ++ (q, e) ∷ after) = whole ∙ ap (λ t. t ++ (q, e) ∷ after) has ∙ append_assoc before (m ∷ back) ((q, e) ∷ after) in
        let from = from_it N before (back ++ (q, e) ∷ after) m (subst (AscendsBy N) shown ascends) in
        let first : k < N (q, e) = omega (arith, (all_back (λ y. N m ≤ N y) back ((q, e) ∷ after) from).0, inner.0, number, other) in
        let rest = from_it N s.seen after (q, e) (subst (AscendsBy N) whole ascends) in
        record {
          first = s.seen;
          others = s.left;
          parts = s.parts;
          long = s.long;
          inside = l.inside;
          reached = l.reached;
          outside = subst (AllByRecursion (λ n. k < N n)) (sym is) (first, all_weaker (λ y. N (q, e) ≤ N y) (λ y. k < N y) (λ y h. omega (arith, h, first)) after rest);
        }

module _ {X : Type 0} (K : (X → ℕ) → Type 0) (clock k : ℕ) (c : Nodes X) (at : Ptr) (least : ℕ) (p : Ptr) where
  abbrev Known : ℕ → Ptr → Nodes X → Type 0
  Known m r seen = (of : X → ℕ) (e : Element X) (after : Nodes X) → K of → c ≡ (at, e) ∷ after → bucket_of clock (of e.value) ≡ k → IsLeastOf of clock k m r seen

  -- one more was seen, which is of the bucket
  pub counted_more : (len more : ℕ) (q : Ptr) (o : Option Ptr) (v : X) (due m : ℕ) (r : Ptr) (b : ℕ) → AreDistinct (spots c) → HoldsAt c q v → ((of : X → ℕ) → K of → due ≡ of v) → more ≡ len + 1 → IsLesser least p due q m r → b ≡ bucket_of clock due → b ≡ k
      → MatchOption o (IsLast c q) (λ r. AreNext c q r) → Counted c len (Some q) (Known least p) → Counted c more o (Known m r)
  counted_more len more q o v due m r b distinct holds tells long lesser at_b in_k on (s, known) =
      let (x, left, first) = s.next in
      subst (λ n. Counted c n o (Known m r)) (sym long) (
        seen_more c len q o distinct s on,
        λ of e after has begins bucket.
            let whole : c ≡ s.seen ++ (q, x) ∷ left = s.parts ∙ ap (λ l. s.seen ++ l) first in
            let value : v ≡ x.value = value_is of clock k c s.seen left q x v distinct whole holds in
            let time : due ≡ of x.value = tells of has ∙ ap of value in
            let number : number_at of clock (q, x) ≡ k = ap (bucket_of clock) (sym time) ∙ sym at_b ∙ in_k in
            least_more of clock k least m p r s.seen q x number (subst (λ t. IsLesser least p t q m r) time lesser) (known of e after has begins bucket),
      )

-- what is at no spot is none
pub none_is : (o : Option Ptr) → ((p : Ptr) → o ≡ Some p → ⊥) → o ≡ None
none_is None h = refl
none_is (Some p) h = absurd (h p refl)
