-- What a handle of a node holds.
use Rattle.std.specs.Prelude.{◌≡◌, Option, Some}
use Rattle.cordyceps_base.specs.declared.node.Block.{Block}
use Rattle.cordyceps_base.specs.Element.{Element}
use Rattle.cordyceps_base.specs.Nodes.{block_element}
use Rattle.cordyceps_c_base.specs.declared.carried.Carried.{Carried}

-- the node of the element e
abbrev pub HoldsElement : Option (Block Carried) → Element Carried → Type 0
HoldsElement held e = (b : Block Carried) × (held ≡ Some b) × (block_element b ≡ e)

-- some node
abbrev pub HoldsNode : Option (Block Carried) → Type 0
HoldsNode held = (b : Block Carried) × (held ≡ Some b)
