-- The nodes that stand for the arrivals which a heap holds.
use Rattle.std.proofs.Common.{List, sym, ◌∙◌}
use Rattle.std.specs.declared.cmp.Ordering.{Ordering}
use Rattle.cordyceps_base.specs.DoubleLines.{flat}
use Rattle.cordyceps_base.specs.Nodes.{Nodes}
use Rattle.cordyceps_heap.specs.Heap.{Holds}
use Rattle.cordyceps_stable.specs.Arranged.{Arranges}
use Rattle.cordyceps_stable.proofs.Arrivals.{Stands}

module _ {X : Type 0} (cmp : X → X → Ordering) where
  -- the arrangement of the nodes stands for any arrivals that the lines hold
  pub heap_stands : (lines : List (Nodes X)) (s a : Nodes X) → Arranges cmp s (flat lines) → Holds cmp lines a
      → Stands cmp (Holds cmp lines) s
  heap_stands lines s a h some = record {
    held = record { in_order = some.in_order; stable = λ x. sym (h.stable x) };
    arranges = λ b k. record { in_order = h.in_order; stable = λ x. h.stable x ∙ k.stable x };
  }
