-- An element whose value was changed, and that was then moved to the end of its bucket.
use Rattle.std.proofs.Common.{◌≡◌, ℕ, zero, suc, ◌<◌, ◌≤◌, ◌^◌, List, [], ◌∷◌, ◌++◌, slice_get, Option, Some, None}
use Rattle.std.proofs.Common.{MatchOption, refl, sym, ap, ◌∙◌, subst}
use Rattle.std.specs.Ordering.{nat_cmp}
use denote.RawPtr.{Ptr}
use Rattle.cordyceps_base.specs.BySpot.{HasSpot, IsTaken, IsPutAfter, IsMovedFront, IsMovedAfter}
use Rattle.cordyceps_base.specs.Element.{Element, values}
use Rattle.cordyceps_base.specs.Nodes.{Nodes, elements, spots, with_item}
use Rattle.cordyceps_base.specs.Spots.{AreDistinct}
use Rattle.cordyceps_single.specs.ByKey.{by_key}
use Rattle.cordyceps_stable.proofs.Holding.{after_taken, distinct_less, first_taken, has_split, left_is_at, spot_is_at, taken_gone}
use Rattle.cordyceps_clock.specs.Buckets.{bucket_of, number_at, AreDue, IsChanged, IsKept, IsMovedIn, IsNearest}
use Rattle.cordyceps_clock.specs.Buckets.{IsPutIn, IsRenewed, IsSet, IsTimed}
use Rattle.cordyceps_clock.specs.Clock.{Holds}
use Rattle.cordyceps_clock.proofs.Pops.{due_left, holds_pushed, holds_removed, timed_pushed}
use Rattle.cordyceps_clock.proofs.Puts.{left_is, nearest_has, put_after, put_first}

module _ {X : Type 0} where
  -- the element that had a value, once another was written
  pub record Wrote (c : Nodes X) (p : Ptr) (v w : X) (d : Nodes X) : Type 0 where
    pub e : Element X
    pub had : e.value ≡ v
    pub changed : IsChanged c p e w d

  pub wrote : (c : Nodes X) (k : ℕ) (p : Ptr) (v w : X) → slice_get (spots c) k ≡ Some p
      → slice_get (values (elements c)) k ≡ Some v → Wrote c p v w (with_item c k w)
  wrote [] k p v w at is = absurd cc
  wrote (x ∷ c) zero p v w at is =
      let same : x.0 ≡ p = cc in
      record {
        e = x.1;
        had = cc;
        changed = record {
          before = [];
          after = c;
          was = λ i. (same i, x.1) ∷ c;
          is = λ i. (same i, record { id = x.1.id; value = w }) ∷ c;
        };
      }
  wrote (x ∷ c) (suc k) p v w at is =
      let on = wrote c k p v w at is in let o = on.changed in
      record {
        e = on.e;
        had = on.had;
        changed = record {
          before = x ∷ o.before;
          after = o.after;
          was = ap (λ l. x ∷ l) o.was;
          is = ap (λ l. x ∷ l) o.is;
        };
      }

  module _ (c rest : Nodes X) (p : Ptr) (e : Element X) (distinct : AreDistinct (spots c))
      (taken : IsTaken c p e rest) where
    rest_distinct : AreDistinct (spots rest)
    rest_distinct =
        let (low, high, was, left) = taken in
        subst (λ l. AreDistinct (spots l)) (sym left)
        (distinct_less low high (p, e) (subst (λ l. AreDistinct (spots l)) was distinct))

    same_left : (left : Nodes X) (o : Element X) → IsTaken c p o left → (o ≡ e) × (left ≡ rest)
    same_left left o gone =
        let (low, high, was, is) = taken in let (own, others) = left_is c low high left p e o distinct was gone in
        (sym own, others ∙ sym is)

    -- what a move to the front or to an end did, in the others
    put_front : (d : Nodes X) → IsMovedFront c p d → d ≡ (p, e) ∷ rest
    put_front d (o, left, gone, is) = let (own, others) = same_left left o gone in is ∙ (λ i. (p, own i) ∷ others i)

    put_behind : (to : Ptr) (d : Nodes X) → IsMovedAfter c p to d → IsPutAfter rest to p e d
    put_behind to d (o, left, gone, put) =
        let (own, others) = same_left left o gone in
        subst (λ (l : Nodes X × Element X). IsPutAfter l.0 to p l.1 d) (λ i. (others i, own i)) put

    pub moved_taken : (ends : List (Option Ptr)) (k : ℕ) (d : Nodes X) → IsMovedIn ends k c p d → IsTaken d p e rest
    moved_taken ends k d m = go m.end m.moved where
      go : (o : Option Ptr) → MatchOption o (IsMovedFront c p d) (λ to. IsMovedAfter c p to d) → IsTaken d p e rest
      go None moved = first_taken d rest p e (put_front d moved)
      go (Some to) moved = after_taken d rest to p e (put_behind to d moved)

    module _ (number : Ptr × Element X → ℕ) (ends : List (Option Ptr)) (k : ℕ) (small : k < 65)
        (kept : IsKept number ends rest) where
      -- the nearest end is another node
      pub end_there : (to : Ptr) → IsNearest ends k (Some to) → HasSpot c to
      end_there to near =
          let (i, at) = nearest_has number ends rest k (Some to) small kept near in let (o, lies) = has_split rest i to at in
          spot_is_at c to o (left_is_at c rest p to e o taken lies)

      pub end_other : (to : Ptr) → IsNearest ends k (Some to) → p ≡ to → ⊥
      end_other to near same =
          let there = nearest_has number ends rest k (Some to) small kept near in
          taken_gone c rest p e distinct taken (subst (HasSpot rest) (sym same) there)

      moved_in : (new : List (Option Ptr)) (d : Nodes X) → IsMovedIn ends k c p d → IsSet ends new k p
          → number (p, e) ≡ k → IsKept number new d × IsPutIn number k rest p e d
      moved_in new d m set numbered = go m.end m.nearest m.moved where
        go : (o : Option Ptr) → IsNearest ends k o → MatchOption o (IsMovedFront c p d) (λ to. IsMovedAfter c p to d)
            → IsKept number new d × IsPutIn number k rest p e d
        go None near moved =
            put_first number ends new rest d p e k small kept near (put_front d moved) numbered set
        go (Some to) near moved =
            put_after number ends new rest d to p e k small rest_distinct kept near (put_behind to d moved) numbered set

    pub renewed : (of : X → ℕ) (clock k : ℕ) (ends new : List (Option Ptr)) (d : Nodes X) → k < 65 → of e.value < 2 ^ 64
        → number_at of clock (p, e) ≡ k → IsKept (number_at of clock) ends rest → IsMovedIn ends k c p d
        → IsSet ends new k p → IsRenewed of clock new rest p e d
    renewed of clock k ends new d small fits numbered kept m set =
        let (stands, put) = moved_in (number_at of clock) ends k small kept new d m set numbered in
        record {
          fits = fits;
          kept = stands;
          put = subst (λ b. IsPutIn (number_at of clock) b rest p e d) (sym numbered) put;
        }

  -- what a queue holds then
  module _ (of : X → ℕ) (clock : ℕ) (ends new : List (Option Ptr)) (c rest d : Nodes X) (p : Ptr) (e n : Element X)
      (timed : IsTimed of clock ends c) (taken : IsTaken c p e rest) (r : IsRenewed of clock new rest p n d) where
    due : AreDue of clock rest
    due = due_left of clock c rest p e timed.times taken

    pub timed_renewed : clock ≤ of n.value → IsTimed of clock new d
    timed_renewed from = timed_pushed of clock (bucket_of clock (of n.value)) new rest d p n due from r.fits r.put r.kept

    pub holds_renewed : clock < 2 ^ 64 → (a : Nodes X) → Holds (by_key nat_cmp of) c a
        → (left : Nodes X) × (IsTaken a p e left × Holds (by_key nat_cmp of) d (left ++ (p, n) ∷ []))
    holds_renewed small a h =
        let (left, (out, stands)) = holds_removed of c rest a p e taken h in let k = bucket_of clock (of n.value) in
        (left, (out, holds_pushed of clock k rest d left p n small due r.fits refl r.put stands))
