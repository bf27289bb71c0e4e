-- Walks over nodes in order.
use Rattle.std.specs.Prelude.{List, [], Option, Some, None, drop}
use denote.RawPtr.{Ptr}
use Rattle.cordyceps_base.specs.Nodes.{Nodes, spots, entries}
use Rattle.cordyceps_base.specs.Spots.{index_of}

module _ {X : Type 0} where
  -- the nodes from a spot on, each as its spot and its value, and none of them from no spot on
  abbrev pub walk_from : Nodes X → Option Ptr → List (Ptr × X)
  walk_from c None = []
  walk_from c (Some p) = entries (drop (index_of p (spots c)) c)
