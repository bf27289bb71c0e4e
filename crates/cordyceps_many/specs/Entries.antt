-- The entries of a list: its spots, each with the value of its node.
use Rattle.std.specs.Prelude.{◌≡◌, ℕ, ◌<◌, true, List, [], ◌∷◌, length, Option, Some, None, IfSome, if◌then◌else◌}
use denote.RawPtr.{Ptr}
use Rattle.cordyceps_base.specs.Nodes.{Nodes}
use Rattle.cordyceps_base.specs.Spots.{same_ptr}
use Rattle.cordyceps_many.specs.MultiList.{Multi, list_at}
use Rattle.cordyceps_many.specs.Threads.{is_in}

-- the part of a list from the first p on
abbrev pub from_spot : Ptr → List Ptr → List Ptr
from_spot p [] = []
from_spot p (q ∷ s) = if same_ptr p q then q ∷ s else from_spot p s

-- the part of a list from a spot on, and none of it from no spot on
abbrev pub from_place : Option Ptr → List Ptr → List Ptr
from_place None s = []
from_place (Some p) s = from_spot p s

module _ {X : Type 0} where
  -- the value of the first node at p, if there is one
  abbrev pub value_at : Nodes X → Ptr → Option X
  value_at [] p = None
  value_at (n ∷ c) p = if same_ptr p n.0 then Some n.1.value else value_at c p

  -- the entry of p with its value, if it has one, before others
  abbrev pub with_entry : Ptr → Option X → List (Ptr × X) → List (Ptr × X)
  with_entry p None es = es
  with_entry p (Some x) es = (p, x) ∷ es

  -- the spots of a list in order, each with the value of the node there
  abbrev pub entries_at : Nodes X → List Ptr → List (Ptr × X)
  entries_at c [] = []
  entries_at c (p ∷ s) = with_entry p (value_at c p) (entries_at c s)

  -- a walk along list i, which is one of k, is at a spot of it or at its end, and knows how many entries are left
  pub record KnowsLeft (k : ℕ) (v : Multi X) (i : ℕ) (o : Option Ptr) (left : ℕ) : Type 0 where
    pub within : i < k
    pub there : IfSome o (λ p. is_in p (list_at i v.lists) ≡ true)
    pub count : left ≡ length (entries_at v.nodes (from_place o (list_at i v.lists)))
