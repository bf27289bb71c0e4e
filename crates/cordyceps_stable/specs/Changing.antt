-- What a sorted list with spots holds after a value was changed.
use Rattle.std.specs.Prelude.{[], ◌∷◌, ◌++◌}
use Rattle.std.specs.declared.cmp.Ordering.{Ordering}
use denote.RawPtr.{Ptr}
use Rattle.cordyceps_base.specs.BySpot.{IsTaken}
use Rattle.cordyceps_base.specs.Element.{Element}
use Rattle.cordyceps_base.specs.Nodes.{Nodes}
use Rattle.cordyceps_stable.specs.Arranged.{Arranges}

module _ {X : Type 0} where
  -- the nodes d are the arrangement of the arrivals a without the element o, which was at p, and with e at p after them
  pub record IsRearranged (cmp : X → X → Ordering) (a : Nodes X) (p : Ptr) (o e : Element X) (d : Nodes X)
      : Type 0 where
    pub left : Nodes X
    pub taken : IsTaken a p o left
    pub arrangement : Arranges cmp d (left ++ (p, e) ∷ [])

  -- a call changed the value at p, and the element left the nodes c, and is in d with the new value, its number and its
  -- spot, as if it had arrived after all others
  pub record ArrivesAnew (calls : X → X → Type 0) (by : (X → X → Ordering) → Type 0) (c : Nodes X) (p : Ptr)
      (d : Nodes X) : Type 0 where
    pub was : Element X
    pub value : X
    pub others : Nodes X
    pub called : calls was.value value
    pub taken : IsTaken c p was others
    pub put : IsTaken d p (record { id = was.id; value = value }) others
    pub rearranged : (cmp : X → X → Ordering) (a : Nodes X) → by cmp → Arranges cmp c a
        → IsRearranged cmp a p was (record { id = was.id; value = value }) d
