-- The entries of a map, each a key with its value, in the orders of the map's lists.
use Rattle.std.specs.Prelude.{◌≡◌, ◌<◌, ◌≤◌, ℕ, Bool, true, List, [], ◌∷◌, ◌++◌, Option, Some, None}
use Rattle.std.specs.Cmp.{IsEquivalence}
use Rattle.std.specs.List.{All}
use Rattle.std.specs.Map.{lookup_entry, remove_entry}
use denote.RawPtr.{Ptr}
use Rattle.cordyceps.specs.Elements.Nodes.{Nodes, spots}
use Rattle.cordyceps.specs.Spots.BySpot.{HasSpot}
use Rattle.cordyceps.specs.Spots.Entries.{value_at}
use Rattle.cordyceps.specs.Spots.MultiList.{list_at, SameBut}
use Rattle.cordyceps.specs.Spots.Spots.{AreDistinct}
use Rattle.cordyceps.specs.Spots.StableMap.{Mapped, AreApart}
use Rattle.cordyceps.specs.Spots.Threads.{is_in, without}

module _ {X : Type 0} where
  -- a value, if there is one, before others
  abbrev pub with_value : Option X → List X → List X
  with_value None s = s
  with_value (Some x) s = x ∷ s

  -- the values at the spots
  abbrev pub in_order : Nodes X → List Ptr → List X
  in_order c [] = []
  in_order c (p ∷ s) = with_value (value_at c p) (in_order c s)

  -- the values of list i
  abbrev pub order : ℕ → Mapped X → List X
  order i m = in_order m.nodes (list_at i m.lists)

  -- the node at p has a value of which P holds
  pub record HasAt (m : Mapped X) (P : X → Type 0) (p : Ptr) : Type 0 where
    pub entry : X
    pub value : value_at m.nodes p ≡ Some entry
    pub holds : P entry

module _ {K X : Type 0} where
  -- the entries with the one that passes the test last
  abbrev pub moved_back : (K → Bool) → List (K × X) → List (K × X)
  moved_back test s = elim (lookup_entry test s) [ Some x ↦ remove_entry test s ++ x ∷ [] | None ↦ s ]

  module _ (eq : K → K → Bool) where
    -- what holds of a map at any time
    pub record IsSound (m : Mapped (K × X)) : Type 0 where
      pub laws : IsEquivalence eq
      pub distinct : AreDistinct (spots m.nodes)
      pub once : (i : ℕ) → AreDistinct (list_at i m.lists)
      pub inside : (i : ℕ) (p : Ptr) → is_in p (list_at i m.lists) ≡ true → HasSpot m.nodes p
      pub all : (p : Ptr) → HasSpot m.nodes p → is_in p (list_at 0 m.lists) ≡ true
      pub apart : AreApart eq m.nodes

    -- the node at p has the entry of the key k, which is in list i
    pub record IsAt (i : ℕ) (m : Mapped (K × X)) (k : K) (p : Ptr) : Type 0 where
      pub entry : K × X
      pub value : value_at m.nodes p ≡ Some entry
      pub same : eq k entry.0 ≡ true
      pub found : lookup_entry (eq k) (order i m) ≡ Some entry

    -- x, which was the entry of its key, went from s, and the others stay in their order, none with that key
    pub record IsOut (s : List (K × X)) (x : K × X) (rest : List (K × X)) : Type 0 where
      pub found : lookup_entry (eq x.0) s ≡ Some x
      pub left : rest ≡ remove_entry (eq x.0) s
      pub gone : lookup_entry (eq x.0) rest ≡ None

    -- the entry x, which was at p, went from v and from its first `count` lists, and w is left
    pub record IsTakenOut (count : ℕ) (v : Mapped (K × X)) (p : Ptr) (x : K × X) (w : Mapped (K × X)) : Type 0 where
      pub value : value_at v.nodes p ≡ Some x
      pub lists : (j : ℕ) → j < count → list_at j w.lists ≡ without p (list_at j v.lists)
      pub orders : (j : ℕ) → j < count → order j w ≡ remove_entry (eq x.0) (order j v)
      pub out : IsOut (order 0 v) x (order 0 w)

    -- the entry x, whose key no other has, came last into v, at p, and w is the map then
    pub record IsPut (v : Mapped (K × X)) (p : Ptr) (x : K × X) (w : Mapped (K × X)) : Type 0 where
      pub value : value_at w.nodes p ≡ Some x
      pub list : list_at 0 w.lists ≡ list_at 0 v.lists ++ p ∷ []
      pub others : SameBut 0 v.lists w.lists
      pub entries : order 0 w ≡ order 0 v ++ x ∷ []
      pub orders : (j : ℕ) → 0 < j → order j w ≡ order j v
      pub found : lookup_entry (eq x.0) (order 0 w) ≡ Some x

  module _ (rank : X → ℕ) where
    -- each rank is at least that of the one before it, and the first is at least t
    abbrev pub AreFrom : ℕ → List (K × X) → Type 0
    AreFrom t [] = Unit {0}
    AreFrom t (x ∷ s) = (t ≤ rank x.1) × AreFrom (rank x.1) s

    -- x was put into s after those whose rank is no greater, which makes t
    pub record IsPlaced (s : List (K × X)) (x : K × X) (t : List (K × X)) : Type 0 where
      pub before : List (K × X)
      pub after : List (K × X)
      pub old : s ≡ before ++ after
      pub new : t ≡ before ++ x ∷ after
      pub first : All (λ y. rank y.1 ≤ rank x.1) before
      pub last : All (λ y. rank x.1 < rank y.1) after

module _ {K X : Type 0} (rank : X → ℕ) where
  -- the spots of s after p have values whose ranks are at least t
  pub record IsPassed (c : Nodes (K × X)) (s : List Ptr) (t : ℕ) (p : Ptr) : Type 0 where
    pub before : List Ptr
    pub after : List Ptr
    pub whole : s ≡ before ++ p ∷ after
    pub late : AreFrom rank t (in_order c after)

  -- the node at p came into list i of v at the place of its rank, and w is the map then
  pub record IsLinkedIn (i : ℕ) (v : Mapped (K × X)) (p : Ptr) (w : Mapped (K × X)) : Type 0 where
    pub nodes : w.nodes ≡ v.nodes
    pub others : SameBut i v.lists w.lists
    pub before : List Ptr
    pub after : List Ptr
    pub old : list_at i v.lists ≡ before ++ after
    pub new : list_at i w.lists ≡ before ++ p ∷ after
    pub entry : K × X
    pub value : value_at v.nodes p ≡ Some entry
    pub placed : IsPlaced rank (order i v) entry (order i w)
    pub sorted : AreFrom rank 0 (order i w)
