-- Fingers on the nodes of a chain.
use Rattle.std.specs.Prelude.{◌<◌, length}
use Rattle.cordyceps_base.specs.Nodes.{Nodes, IsAt}
use Rattle.cordyceps_list.specs.declared.finger.Finger.{Finger}
use Rattle.cordyceps_list.specs.declared.finger.Fingers.{Fingers}

module _ {X : Type 0} where
  -- the finger is on a node, and knows its index
  abbrev pub IsOn : Nodes X → Finger → Type 0
  IsOn c f = (f.index < length c) × IsAt c f.index f.address

  -- if its index is below the length, the finger is on that node
  abbrev pub FingerFits : Nodes X → Finger → Type 0
  FingerFits c f = f.index < length c → IsAt c f.index f.address

  -- the front finger fits the chain, and while it is on a node, so does the back one
  pub record FingersFit (c : Nodes X) (fs : Fingers) : Type 0 where
    pub front : FingerFits c fs.front
    pub back : fs.front.index < length c → FingerFits c fs.back
