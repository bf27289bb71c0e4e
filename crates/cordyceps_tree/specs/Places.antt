-- The place to which a search leads among nodes in order.
use Rattle.std.specs.Prelude.{◌≡◌, ◌⊎◌, Bool, true, false, List, [], ◌∷◌, ◌++◌, Option, Some, None, if◌then◌else◌}
use denote.RawPtr.{Ptr}
use Rattle.cordyceps_base.specs.Boxes.{box_addresses}
use Rattle.cordyceps_base.specs.Spots.{same_ptr}
use Rattle.cordyceps_base.specs.declared.boxes.Address.{Address}
use Rattle.cordyceps_tree.specs.Rows.{Held, block_of, hook_at}
use Rattle.cordyceps_tree.specs.Trees.{Shape, height, flat, Linked, Balanced, Step, plug, before, after, Around, Stands, IsGap, first_in, is_none}
use Rattle.cordyceps_tree.specs.declared.finding.Place.{Place}

-- the place on a side of the node at p, which stands in the place w
abbrev pub below : Place → Address → Bool → Place
below w p false = record { up = p; side = false; is_first = w.is_first; next = p }
below w p true = record { up = p; side = true; is_first = false; next = w.next }

module _ {X : Type 0} where
  -- the value at p, if a node is there
  abbrev pub content_at : List (Held X) → Ptr → Option X
  content_at [] p = None
  content_at (n ∷ ns) p = if same_ptr p n.0 then Some (block_of n).value else content_at ns p

  -- what a guide said of the value at p
  abbrev pub IsSaidAt : (X → Bool → Type 0) → List (Held X) → Ptr → Bool → Type 0
  IsSaidAt says ns p b = (x : X) → content_at ns p ≡ Some x → says x b

  -- a guide said that the place is after the last value before it, and not after the first one behind it
  pub record GoesAt (says : X → Bool → Type 0) (ns : List (Held X)) (steps : List Step) : Type 0 where
    pub low : (before steps ≡ [])
        ⊎ ((a : List Ptr) × (p : Ptr) × (before steps ≡ a ++ p ∷ []) × IsSaidAt says ns p true)
    pub high : (after steps ≡ []) ⊎ ((p : Ptr) × (b : List Ptr) × (after steps ≡ p ∷ b) × IsSaidAt says ns p false)

  -- the place to which a guide leads
  pub record IsPlace (says : X → Bool → Type 0) (ns : List (Held X)) (root : Ptr) (w : Place) : Type 0 where
    pub gap : IsGap (hook_at ns) (box_addresses ns) root w.up.ptr w.side
    pub goes : GoesAt says ns gap.steps
    pub outer : w.is_first ≡ is_none (before gap.steps)
    pub next : w.next.ptr ≡ first_in (after gap.steps)

  -- the place to which a guide leads is in the tree at h, which stands in the place w
  pub record IsSearched (says : X → Bool → Type 0) (ns : List (Held X)) (root : Ptr) (w : Place) (h : Ptr)
      : Type 0 where
    pub steps : List Step
    pub shape : Shape
    pub order : flat (plug steps shape) ≡ box_addresses ns
    pub linked : Linked (hook_at ns) w.up.ptr w.side h shape
    pub balanced : Balanced shape
    pub around : Around (hook_at ns) root w.up.ptr w.side h steps
    pub stands : Stands (hook_at ns) (height shape) steps
    pub goes : GoesAt says ns steps
    pub outer : w.is_first ≡ is_none (before steps)
    pub next : w.next.ptr ≡ first_in (after steps)
