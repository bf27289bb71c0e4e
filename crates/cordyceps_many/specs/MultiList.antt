-- Lists that share their nodes.
use Rattle.std.specs.Prelude.{◌≡◌, ◌≢◌, ◌<◌, ℕ, zero, suc, true, List, [], ◌∷◌, ◌++◌, length}
use denote.RawPtr.{Ptr}
use Rattle.cordyceps_base.specs.Boxes.{box_addresses}
use Rattle.cordyceps_base.specs.BySpot.{IsTaken}
use Rattle.cordyceps_base.specs.Element.{Element}
use Rattle.cordyceps_base.specs.Nodes.{Nodes}
use Rattle.cordyceps_base.specs.Spots.{AreDistinct, AreNullComparable}
use Rattle.cordyceps_many.specs.declared.hook.Ends.{Ends}
use Rattle.cordyceps_many.specs.Rows.{Held, hook_at}
use Rattle.cordyceps_many.specs.Threads.{is_in, without, ends_in, walk, IsThread}

-- what a contract sees: the nodes, each with its spot, and of each list the spots of its nodes
pub record Multi (X : Type 0) : Type 0 where
  pub nodes : Nodes X
  pub lists : List (List Ptr)

-- list i
abbrev pub list_at : ℕ → List (List Ptr) → List Ptr
list_at i [] = []
list_at zero (s ∷ ls) = s
list_at (suc i) (s ∷ ls) = list_at i ls

-- no list but list i changes
abbrev pub SameBut : ℕ → List (List Ptr) → List (List Ptr) → Type 0
SameBut i a b = (j : ℕ) → j ≢ i → list_at j b ≡ list_at j a

-- p is the first of s
abbrev pub IsFirstOf : List Ptr → Ptr → Type 0
IsFirstOf s p = (after : List Ptr) × (s ≡ p ∷ after)

-- p is the last of s
abbrev pub IsLastOf : List Ptr → Ptr → Type 0
IsLastOf s p = (before : List Ptr) × (s ≡ before ++ p ∷ [])

-- q comes right after p in s
pub record AreNextIn (s : List Ptr) (p q : Ptr) : Type 0 where
  pub before : List Ptr
  pub after : List Ptr
  pub whole : s ≡ before ++ p ∷ q ∷ after

module _ {X : Type 0} where
  -- the number of the node at p is id
  pub record HasNumber (c : Nodes X) (p : Ptr) (id : ℕ) : Type 0 where
    pub before : Nodes X
    pub value : X
    pub after : Nodes X
    pub whole : c ≡ before ++ (p, record { id = id; value = value }) ∷ after

  -- the node e was the first of list i, and was taken out of the first k lists of v, and w is left
  pub record FirstTaken (k i : ℕ) (v : Multi X) (e : Element X) (w : Multi X) : Type 0 where
    pub spot : Ptr
    pub first : IsFirstOf (list_at i v.lists) spot
    pub taken : IsTaken v.nodes spot e w.nodes
    pub lists : (j : ℕ) → j < k → list_at j w.lists ≡ without spot (list_at j v.lists)

module _ {X Y A E : Type 0} where
  -- the spots that list i comes to from its first end
  abbrev pub thread : List (Held X Y A E) → ℕ → Ends → List Ptr
  thread ns i e = walk (hook_at ns i) e.len e.first.ptr

  -- the lists from list i on
  abbrev pub lists_in : List (Held X Y A E) → ℕ → List Ends → List (List Ptr)
  lists_in ns i [] = []
  lists_in ns i (e ∷ es) = thread ns i e ∷ lists_in ns (suc i) es

  -- each list goes through nodes of the row
  pub record AreThreads (k : ℕ) (es : List Ends) (ns : List (Held X Y A E)) : Type 0 where
    pub long : length es ≡ k
    pub distinct : AreDistinct (box_addresses ns)
    pub comparable : AreNullComparable (box_addresses ns)
    pub threads : (i : ℕ) → IsThread (hook_at ns i) (ends_in es i) (thread ns i (ends_in es i))

  -- and list 0 through all
  pub record IsMulti (k : ℕ) (es : List Ends) (ns : List (Held X Y A E)) : Type 0 where
    pub parts : AreThreads k es ns
    pub whole : (p : Ptr) → is_in p (box_addresses ns) ≡ true → (hook_at ns 0 p).linked ≡ true
