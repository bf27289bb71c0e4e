-- Buckets of times, and where each of them ends in a list.
use Rattle.std.specs.Prelude.{◌≡◌, ℕ, ◌-◌, ◌<◌, ◌≤◌, ◌^◌, ◌==◌, ◌⊎◌, bit_xor, Option, Some, None, MatchOption}
use Rattle.std.specs.Prelude.{List, [], ◌∷◌, ◌++◌, length, get_or, filter}
use Rattle.std.specs.Int.Count.{count_leading_zeros}
use Rattle.std.specs.List.{AllByRecursion}
use denote.RawPtr.{Ptr}
use Rattle.cordyceps_base.specs.BySpot.{IsMovedFront, IsMovedAfter}
use Rattle.cordyceps_base.specs.Element.{Element}
use Rattle.cordyceps_base.specs.Nodes.{Nodes}
use Rattle.cordyceps_single.specs.ByKey.{AscendsBy}
use Rattle.cordyceps_clock.specs.declared.buckets.TheConstants.{BUCKETS}

-- the bucket of a time: 0 for the clock itself, and for another time one more than the highest bit in which the two differ
abbrev pub bucket_of : (clock time : ℕ) → ℕ
bucket_of clock time = 64 - count_leading_zeros 64 (bit_xor clock time)

-- the end of the bucket k, or where that has no node, of the nearest lower one that has; None if none of them has
abbrev pub IsNearest : (ends : List (Option Ptr)) → ℕ → Option Ptr → Type 0
IsNearest ends k o = MatchOption o ((i : ℕ) → i ≤ k → get_or ends i None ≡ None)
    (λ p. (j : ℕ) × (j ≤ k) × (get_or ends j None ≡ Some p) × ((i : ℕ) → j < i → i ≤ k → get_or ends i None ≡ None))

-- no bucket above the bucket low, up to k, has a node
abbrev pub AreEmpty : (ends : List (Option Ptr)) → (low k : ℕ) → Type 0
AreEmpty ends low k = (i : ℕ) → low < i → i ≤ k → get_or ends i None ≡ None

-- the bucket k ends at p now, and each other where it did
abbrev pub IsSet : (ends new : List (Option Ptr)) → ℕ → Ptr → Type 0
IsSet ends new k p =
    (get_or new k None ≡ Some p) × ((i : ℕ) → (i ≡ k → ⊥) → get_or new i None ≡ get_or ends i None)

module _ {Y : Type 0} where
  -- where the last of some nodes is, if there is one
  abbrev pub last_spot : List (Ptr × Y) → Option Ptr
  last_spot [] = None
  last_spot (n ∷ []) = Some n.0
  last_spot (n ∷ m ∷ c) = last_spot (m ∷ c)

  module _ (number : Ptr × Y → ℕ) where
    -- the nodes of one bucket
    abbrev pub row : ℕ → List (Ptr × Y) → List (Ptr × Y)
    row k c = filter (λ n. number n == k) c

    -- the nodes are in the order of their buckets, and each bucket ends where its last node is
    pub record IsKept (ends : List (Option Ptr)) (c : List (Ptr × Y)) : Type 0 where
      pub ascends : AscendsBy number c
      pub last : (k : ℕ) → k < BUCKETS → get_or ends k None ≡ last_spot (row k c)

module _ {X : Type 0} (of : X → ℕ) where
  -- the bucket of a node
  abbrev pub number_at : (clock : ℕ) → Ptr × Element X → ℕ
  number_at clock n = bucket_of clock (of n.1.value)

  -- no node is due before the clock
  abbrev pub AreDue : (clock : ℕ) → Nodes X → Type 0
  AreDue clock c = AllByRecursion (λ n. (clock ≤ of n.1.value) × (of n.1.value < 2 ^ 64)) c

  -- no node is due at the time or before it
  abbrev pub AreLater : (time : ℕ) → Nodes X → Type 0
  AreLater time c = AllByRecursion (λ n. time < of n.1.value) c

  -- the first node is due at the clock, or the clock is the time `until` and no node is due by then
  abbrev pub IsAdvanced : (clock until : ℕ) → Nodes X → Type 0
  IsAdvanced clock until c =
      ((p : Ptr) × (e : Element X) × (after : Nodes X) × (c ≡ (p, e) ∷ after) × (of e.value ≡ clock))
      ⊎ ((clock ≡ until) × AreLater until c)

  -- no node is due before the clock, and the nodes lie in their buckets
  pub record IsTimed (clock : ℕ) (ends : List (Option Ptr)) (c : Nodes X) : Type 0 where
    pub kept : IsKept (number_at clock) ends c
    pub times : AreDue clock c

module _ {X : Type 0} where
  -- the node e at p was put in after all nodes of c but those of buckets above k
  abbrev pub IsPutIn : (Ptr × Element X → ℕ) → ℕ → Nodes X → Ptr → Element X → Nodes X → Type 0
  IsPutIn number k c p e d =
      (low : Nodes X) × (high : Nodes X) × (c ≡ low ++ high) × (d ≡ low ++ (p, e) ∷ high)
      × AllByRecursion (λ n. k < number n) high

  -- the node at p was moved right after the nearest end of a bucket up to k, or to the front where there is none
  pub record IsMovedIn (ends : List (Option Ptr)) (k : ℕ) (c : Nodes X) (p : Ptr) (d : Nodes X) : Type 0 where
    pub end : Option Ptr
    pub nearest : IsNearest ends k end
    pub moved : MatchOption end (IsMovedFront c p d) (λ to. IsMovedAfter c p to d)

  -- the value of the node e at p was changed to w
  pub record IsChanged (c : Nodes X) (p : Ptr) (e : Element X) (w : X) (d : Nodes X) : Type 0 where
    pub before : Nodes X
    pub after : Nodes X
    pub was : c ≡ before ++ (p, e) ∷ after
    pub is : d ≡ before ++ (p, record { id = e.id; value = w }) ∷ after

  -- the node e at p was put in among the nodes of rest, at the end of the bucket of its time
  pub record IsRenewed (of : X → ℕ) (clock : ℕ) (ends : List (Option Ptr)) (rest : Nodes X) (p : Ptr) (e : Element X)
      (d : Nodes X) : Type 0 where
    pub fits : of e.value < 2 ^ 64
    pub kept : IsKept (number_at of clock) ends d
    pub put : IsPutIn (number_at of clock) (bucket_of clock (of e.value)) rest p e d

  -- the first nodes are those of the bucket k, least is the least of their times, the first of that time is at p, and
  -- there are len of them
  pub record IsFirstBucket (of : X → ℕ) (clock k : ℕ) (c : Nodes X) (least : ℕ) (p : Ptr) (len : ℕ) : Type 0 where
    pub first : Nodes X
    pub others : Nodes X
    pub parts : c ≡ first ++ others
    pub long : length first ≡ len
    pub inside : AllByRecursion (λ n. (number_at of clock n ≡ k) × (least ≤ of n.1.value)) first
    pub reached : (before : Nodes X) × (e : Element X) × (after : Nodes X)
        × (first ≡ before ++ (p, e) ∷ after) × (of e.value ≡ least) × AllByRecursion (λ n. least < of n.1.value) before
    pub outside : AllByRecursion (λ n. k < number_at of clock n) others

  -- The done nodes lie in buckets up to j, and the others in buckets above it. The nodes ahead lie between them, and in
  -- no bucket yet; they belong into buckets up to j.
  pub record IsSpreading (number : Ptr × Element X → ℕ) (ends : List (Option Ptr)) (c : Nodes X) (j : ℕ)
      (done ahead others : Nodes X) : Type 0 where
    pub parts : c ≡ done ++ (ahead ++ others)
    pub kept : IsKept number ends (done ++ others)
    pub low : AllByRecursion (λ n. number n ≤ j) ahead
    pub high : AllByRecursion (λ n. j < number n) others
