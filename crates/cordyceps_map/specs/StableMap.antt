-- Maps whose nodes are in lists at the same time.
use Rattle.std.specs.Prelude.{◌≡◌, ◌<◌, ℕ, Bool, List, true, [], ◌∷◌, ◌++◌, map, Option, Some, None, MatchOption}
use Rattle.std.specs.Map.{lookup, lookup_entry}
use Rattle.std.specs.declared.cmp.Ordering.{Ordering}
use denote.RawPtr.{Ptr}
use Rattle.cordyceps_base.specs.BySpot.{HasSpot, HoldsAt, IsTaken}
use Rattle.cordyceps_base.specs.Element.{Element, values}
use Rattle.cordyceps_base.specs.Nodes.{Nodes, elements, spots}
use Rattle.cordyceps_base.specs.Spots.{AreDistinct, AreNullComparable}
use Rattle.cordyceps_many.specs.Entries.{value_at}
use Rattle.cordyceps_many.specs.InOrder.{IsIndex, IsIndexBut}
use Rattle.cordyceps_many.specs.MultiList.{list_at, SameBut}
use Rattle.cordyceps_many.specs.Threads.{is_in, without}

-- what a contract sees: the nodes, each with its spot, of each list the spots of its nodes, and how many buckets there are
pub record Mapped (X : Type 0) : Type 0 where
  pub nodes : Nodes X
  pub lists : List (List Ptr)
  pub buckets : ℕ

module _ {X : Type 0} where
  -- the other lists stay, and so does the number of buckets
  pub record OthersStay (i : ℕ) (v w : Mapped X) : Type 0 where
    pub lists : SameBut i v.lists w.lists
    pub buckets : w.buckets ≡ v.buckets

module _ {K V : Type 0} where
  -- the keys with their values, in the order in which the nodes came
  abbrev pub pairs : Nodes (K × V) → List (K × V)
  pairs c = values (elements c)

  -- the nodes, each with its value alone
  abbrev pub valued : Nodes (K × V) → Nodes V
  valued = map (λ n. (n.0, record { id = n.1.id; value = n.1.value.1 }))

  -- list i is an index by an order of the values: it has every node, in order
  abbrev pub IsIndexOf : (V → V → Ordering) → ℕ → Mapped (K × V) → Type 0
  IsIndexOf cmp i m = IsIndex cmp (valued m.nodes) (list_at i m.lists)

  -- list i is an index of all nodes but that at p
  abbrev pub IsIndexButAt : (V → V → Ordering) → ℕ → Ptr → Mapped (K × V) → Type 0
  IsIndexButAt cmp i p m = IsIndexBut cmp (valued m.nodes) p (list_at i m.lists)

  -- no two nodes have equal keys
  abbrev pub AreApart : (K → K → Bool) → Nodes (K × V) → Type 0
  AreApart eq c = (p q : Ptr) (x y : K × V) → value_at c p ≡ Some x → value_at c q ≡ Some y → eq x.0 y.0 ≡ true → p ≡ q

  -- what holds of the nodes and the lists of a map at any time: no two nodes are at one spot or have equal keys, no spot
  -- is null, a list has a spot once, and only spots of nodes, and list 0 has all of these
  pub record AreSound (eq : K → K → Bool) (m : Mapped (K × V)) : Type 0 where
    pub distinct : AreDistinct (spots m.nodes)
    pub comparable : AreNullComparable (spots m.nodes)
    pub once : (i : ℕ) → AreDistinct (list_at i m.lists)
    pub inside : (i : ℕ) (p : Ptr) → is_in p (list_at i m.lists) ≡ true → HasSpot m.nodes p
    pub all : (p : Ptr) → HasSpot m.nodes p → is_in p (list_at 0 m.lists) ≡ true
    pub apart : AreApart eq m.nodes

  -- the node of the key k is at p
  pub record IsFound (eq : K → K → Bool) (c : Nodes (K × V)) (k : K) (p : Ptr) : Type 0 where
    pub pair : K × V
    pub held : HoldsAt c p pair
    pub found : lookup_entry (eq k) (pairs c) ≡ Some pair

  -- the node n of the key k was taken out of the map v and of its first `count` lists, and w is left
  pub record IsRemoved (eq : K → K → Bool) (count : ℕ) (v : Mapped (K × V)) (k : K) (n : Element (K × V)) (w : Mapped (K × V))
      : Type 0 where
    pub spot : Ptr
    pub found : IsFound eq v.nodes k spot
    pub taken : IsTaken v.nodes spot n w.nodes
    pub lists : (j : ℕ) → j < count → list_at j w.lists ≡ without spot (list_at j v.lists)
    pub buckets : w.buckets ≡ v.buckets

  -- the node n came into the map v and to the back of list 0, is at p, and w is the map then
  pub record IsAdded (v : Mapped (K × V)) (p : Ptr) (n : Element (K × V)) (w : Mapped (K × V)) : Type 0 where
    pub nodes : w.nodes ≡ v.nodes ++ (p, n) ∷ []
    pub list : list_at 0 w.lists ≡ list_at 0 v.lists ++ p ∷ []
    pub others : OthersStay 0 v w

  -- the node n is in the map at p in the place of the one that had its key, if there was one
  pub record IsInserted (eq : K → K → Bool) (count : ℕ) (v : Mapped (K × V)) (n : Element (K × V)) (p : Ptr)
      (old : Option (Element (K × V))) (w : Mapped (K × V)) : Type 0 where
    pub rest : Mapped (K × V)
    pub replaced : MatchOption old ((lookup (eq n.value.0) (pairs v.nodes) ≡ None) × (rest ≡ v))
        (λ o. IsRemoved eq count v n.value.0 o rest)
    pub added : IsAdded rest p n w
