-- What a queue of times stands for.
use Rattle.std.specs.Prelude.{ℕ, ◌-◌, ◌*◌, ◌/◌, ◌^◌}
use Rattle.std.specs.declared.cmp.Ordering.{Ordering}
use Rattle.std.specs.List.Sorted.{IsStableBy}
use Rattle.cordyceps_base.specs.Nodes.{Nodes}
use Rattle.cordyceps_stable.specs.Arranged.{precedes}
use Rattle.cordyceps_clock.specs.Buckets.{bucket_of}

-- what a contract sees of a queue: its nodes, in an order of no meaning, the function that returns their times, and the
-- clock, before which no node is due
pub record Clocked (X O : Type 0) : Type 0 where
  pub nodes : Nodes X
  pub time : O
  pub clock : ℕ

-- the nodes are the arrivals a, and equals are ordered as in a
abbrev pub Holds : {X : Type 0} → (X → X → Ordering) → Nodes X → Nodes X → Type 0
Holds cmp nodes a = IsStableBy (precedes cmp) a nodes

-- the time without its bits below the highest in which it differs from the clock
abbrev pub rounded : (clock time : ℕ) → ℕ
rounded clock time = let unit = 2 ^ (bucket_of clock time - 1) in time / unit * unit
