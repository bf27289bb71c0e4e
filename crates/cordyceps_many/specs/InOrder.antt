-- Lists whose nodes are in order, by an order of their values.
use Rattle.std.specs.Prelude.{◌≡◌, ◌≢◌, true, false, List, [], ◌∷◌, ◌++◌, Option, MatchOption}
use Rattle.std.specs.declared.cmp.Ordering.{Ordering}
use Rattle.std.specs.Ordering.{is_gt}
use denote.RawPtr.{Ptr}
use Rattle.cordyceps_base.specs.BySpot.{HasSpot, HoldsAt}
use Rattle.cordyceps_base.specs.Nodes.{Nodes}
use Rattle.cordyceps_many.specs.MultiList.{IsLastOf}
use Rattle.cordyceps_many.specs.Threads.{is_in}

module _ {X : Type 0} where
  -- the value at p is greater than that at q
  abbrev pub IsGreaterAt : (X → X → Ordering) → Nodes X → Ptr → Ptr → Type 0
  IsGreaterAt cmp c p q = (x y : X) → HoldsAt c p x → HoldsAt c q y → is_gt (cmp x y) ≡ true

  -- the value at p is not greater than that at q
  abbrev pub IsAtMostAt : (X → X → Ordering) → Nodes X → Ptr → Ptr → Type 0
  IsAtMostAt cmp c p q = (x y : X) → HoldsAt c p x → HoldsAt c q y → is_gt (cmp x y) ≡ false

  -- s is in order: no value is greater than the next
  abbrev pub IsInOrder : (X → X → Ordering) → Nodes X → List Ptr → Type 0
  IsInOrder cmp c [] = Unit {0}
  IsInOrder cmp c (p ∷ []) = Unit {0}
  IsInOrder cmp c (p ∷ q ∷ s) = IsAtMostAt cmp c p q × IsInOrder cmp c (q ∷ s)

  -- t is s with p between two parts: the last value of the front is not greater than that at p, and all of the back are
  pub record IsPutInOrder (by : (X → X → Ordering) → Type 0) (c : Nodes X) (p : Ptr) (s t : List Ptr) : Type 0 where
    pub front : List Ptr
    pub back : List Ptr
    pub was : s ≡ front ++ back
    pub is : t ≡ front ++ p ∷ back
    pub low : (cmp : X → X → Ordering) → by cmp → (q : Ptr) → IsLastOf front q → IsAtMostAt cmp c q p
    pub high : (cmp : X → X → Ordering) → by cmp → (q : Ptr) → is_in q back ≡ true → IsGreaterAt cmp c q p

  -- each value of s after the spot o is greater than that at p; where there is no spot, each is
  pub record AreGreaterAfter (by : (X → X → Ordering) → Type 0) (c : Nodes X) (p : Ptr) (s : List Ptr) (o : Option Ptr)
      : Type 0 where
    pub front : List Ptr
    pub back : List Ptr
    pub whole : s ≡ front ++ back
    pub end : MatchOption o (front ≡ []) (λ q. IsLastOf front q)
    pub high : (cmp : X → X → Ordering) → by cmp → (q : Ptr) → is_in q back ≡ true → IsGreaterAt cmp c q p

  -- the list s is an index: it has every node, in order
  pub record IsIndex (cmp : X → X → Ordering) (c : Nodes X) (s : List Ptr) : Type 0 where
    pub all : (p : Ptr) → HasSpot c p → is_in p s ≡ true
    pub in_order : IsInOrder cmp c s

  -- the list s is an index of all nodes but that at p
  pub record IsIndexBut (cmp : X → X → Ordering) (c : Nodes X) (p : Ptr) (s : List Ptr) : Type 0 where
    pub others : (q : Ptr) → HasSpot c q → q ≢ p → is_in q s ≡ true
    pub out : is_in p s ≡ false
    pub in_order : IsInOrder cmp c s
