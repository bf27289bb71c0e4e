-- A node that is put in after the nearest end, or moved there.
use Rattle.std.proofs.Common.{true, ◌≡◌, ℕ, ◌+◌, ◌-◌, ◌<◌, ◌≤◌, length, IfSome, MatchOption, slice_set, List, [], ◌∷◌, ◌++◌, get_or, Option, Some, None, inl, inr, sym, ap, ◌∙◌, subst, arith}
use Rattle.std.specs.Option.{is_some}
use Rattle.std.proofs.lemmas.Bool.{cases_lt}
use Rattle.std.proofs.lemmas.List.{append_assoc, get_or_default, get_or-set_same, get_or-set_other}
use denote.RawPtr.{Ptr}
use Rattle.cordyceps_base.specs.BySpot.{HasSpot, IsTaken, IsPutAfter}
use Rattle.cordyceps_base.specs.Element.{Element}
use Rattle.cordyceps_base.specs.Nodes.{Nodes, spots}
use Rattle.cordyceps_base.specs.Spots.{AreDistinct}
use Rattle.cordyceps_stable.proofs.Holding.{spot_is_at, unique}
use Rattle.cordyceps_clock.specs.Buckets.{AreEmpty, IsKept, IsNearest, IsPutIn, IsSet}
use Rattle.cordyceps_clock.proofs.Rows.{parted, kept_put}

-- ---- a node less
module _ {X : Type 0} where
  -- what a moved node leaves
  pub left_is : (c done more rest : Nodes X) (p : Ptr) (e o : Element X) → AreDistinct (spots c) → c ≡ done ++ (p, e) ∷ more → IsTaken c p o rest → (e ≡ o) × (rest ≡ done ++ more)
  left_is c done more rest p e o distinct is (before, after, was, left) =
      let (front, own, back) = unique done more before after p e o (sym is ∙ was) (subst (λ l. AreDistinct (spots l)) is distinct) in
      (own, left ∙ (λ i. sym front i ++ sym back i))

-- an end that was written
pub set_is : (ends : List (Option Ptr)) (k : ℕ) (spot : Ptr) → length ends ≡ 65 → k < 65 → IsSet ends (slice_set ends k (Some spot)) k spot
set_is ends k spot long small = (get_or-set_same ends k (Some spot) None (omega (arith, long, small)), λ i other. get_or-set_other ends k i (Some spot) None other)

-- the nearest end is the same from each of some buckets that are empty
pub nearest_above : (ends : List (Option Ptr)) (low k : ℕ) (o : Option Ptr) → low ≤ k → AreEmpty ends low k → IsNearest ends low o → IsNearest ends k o
nearest_above ends low k None le empty near = λ i upto. elim (cases_lt low i) [ inl over ↦ empty i over upto | inr under ↦ near i under ]
nearest_above ends low k (Some p) le empty (j, within, at, none) =
    (j, omega (arith, within, le), at, λ i more upto. elim (cases_lt low i) [ inl over ↦ empty i over upto | inr under ↦ none i more under ])

-- what holds of each nearest end holds of that one
pub at_nearest : (P : Ptr → Type 0) (ends : List (Option Ptr)) (k : ℕ) (o : Option Ptr) → ((to : Ptr) → IsNearest ends k (Some to) → P to) → IsNearest ends k o → IfSome o P
at_nearest P ends k None h near = tt
at_nearest P ends k (Some to) h near = h to near

-- the first end that is found is the nearest
pub found_end : (ends : List (Option Ptr)) (k above : ℕ) (r : Option Ptr) → length ends ≡ 65 → k < 65 → 0 < above → above ≤ k + 1 → ((i : ℕ) → above ≤ i → i ≤ k → get_or ends i None ≡ None) → is_some (get_or ends (above - 1) r) ≡ true
    → MatchOption (get_or ends (above - 1) r) ((i : ℕ) → i ≤ k → get_or ends i None ≡ None) (λ p. (j : ℕ) × (j ≤ k) × (get_or ends j None ≡ Some p) × ((i : ℕ) → j < i → i ≤ k → get_or ends i None ≡ None))
found_end ends k above r long small some within none is = go (get_or ends (above - 1) r) (get_or_default ends (above - 1) None r (omega (arith, long, small, within))) is where
  go : (o : Option Ptr) → get_or ends (above - 1) None ≡ o → is_some o ≡ true
      → MatchOption o ((i : ℕ) → i ≤ k → get_or ends i None ≡ None) (λ p. (j : ℕ) × (j ≤ k) × (get_or ends j None ≡ Some p) × ((i : ℕ) → j < i → i ≤ k → get_or ends i None ≡ None))
  go None at t = absurd cc
  go (Some p) at t = (above - 1, omega (arith, within, some), at, λ i more upto. none i (omega (arith, more, some)) upto)

module _ {X : Type 0} (number : Ptr × Element X → ℕ) where
  -- the nearest end is where a node is
  pub nearest_has : (ends : List (Option Ptr)) (c : Nodes X) (k : ℕ) (o : Option Ptr) → k < 65 → IsKept number ends c → IsNearest ends k o → IfSome o (λ to. HasSpot c to)
  nearest_has ends c k None small kept near = tt
  nearest_has ends c k (Some to) small kept near =
      let p = parted number ends c k (Some to) small kept near in let (front, y, low) = p.end in
      spot_is_at c to y (front, p.high, p.is ∙ ap (λ l. l ++ p.high) low ∙ append_assoc front ((to, y) ∷ []) p.high)

  pub put_after : (ends new : List (Option Ptr)) (c d : Nodes X) (to spot : Ptr) (e : Element X) (k : ℕ) → k < 65 → AreDistinct (spots c) → IsKept number ends c → IsNearest ends k (Some to) → IsPutAfter c to spot e d
      → number (spot, e) ≡ k → IsSet ends new k spot → IsKept number new d × IsPutIn number k c spot e d
  put_after ends new c d to spot e k small distinct kept near (before, o, after, was, is) numbered set =
      let p = parted number ends c k (Some to) small kept near in let (front, y, low) = p.end in
      let whole : c ≡ front ++ (to, y) ∷ p.high = p.is ∙ ap (λ l. l ++ p.high) low ∙ append_assoc front ((to, y) ∷ []) p.high in
      let (first, own, last) = unique before after front p.high to o y (sym was ∙ whole) (subst (λ l. AreDistinct (spots l)) was distinct) in
      let put : d ≡ p.low ++ (spot, e) ∷ p.high =
      is ∙ (λ i. first i ++ (to, own i) ∷ (spot, e) ∷ last i) ∙ sym (append_assoc front ((to, y) ∷ []) ((spot, e) ∷ p.high)) ∙ ap (λ l. l ++ (spot, e) ∷ p.high) (sym low) in (
        subst (IsKept number new) (sym put) (kept_put number ends new p.low p.high (spot, e) k numbered p.upto p.above set.0 set.1 (subst (IsKept number ends) p.is kept)),
        (p.low, p.high, p.is, put, p.above),
      )

  pub put_first : (ends new : List (Option Ptr)) (c d : Nodes X) (spot : Ptr) (e : Element X) (k : ℕ) → k < 65 → IsKept number ends c → IsNearest ends k None → d ≡ (spot, e) ∷ c
      → number (spot, e) ≡ k → IsSet ends new k spot → IsKept number new d × IsPutIn number k c spot e d
  put_first ends new c d spot e k small kept near is numbered set =
      let p = parted number ends c k None small kept near in
      let put : d ≡ p.low ++ (spot, e) ∷ p.high = is ∙ ap (λ l. (spot, e) ∷ l) (p.is ∙ ap (λ l. l ++ p.high) p.end) ∙ ap (λ l. l ++ (spot, e) ∷ p.high) (sym p.end) in (
        subst (IsKept number new) (sym put) (kept_put number ends new p.low p.high (spot, e) k numbered p.upto p.above set.0 set.1 (subst (IsKept number ends) p.is kept)),
        (p.low, p.high, p.is, put, p.above),
      )

  -- the node was put in right behind the nearest end, or first
  pub put_nearest : (ends new : List (Option Ptr)) (c d : Nodes X) (o : Option Ptr) (spot : Ptr) (e : Element X) (k : ℕ) → k < 65 → AreDistinct (spots c) → IsKept number ends c → IsNearest ends k o
      → MatchOption o (d ≡ (spot, e) ∷ c) (λ to. IsPutAfter c to spot e d) → number (spot, e) ≡ k → IsSet ends new k spot → IsKept number new d × IsPutIn number k c spot e d
  put_nearest ends new c d None spot e k small distinct kept near put numbered set = put_first ends new c d spot e k small kept near put numbered set
  put_nearest ends new c d (Some to) spot e k small distinct kept near put numbered set = put_after ends new c d to spot e k small distinct kept near put numbered set
