use Rattle.std.proofs.Common.{length, ap, ◌∙◌, arith}
use Rattle.cordyceps_base.specs.SingleChain.{unless_null}
use Rattle.cordyceps_base.proofs.Nodes.{length-nodes_of}
use Rattle.cordyceps_base.proofs.SingleChain.{first_row, leads_itself}
use Rattle.cordyceps_base.proofs.single_chain.SingleChain.split_first.Goals as goal

pub only-requires : goal.only-requires
only-requires g c =
    let i = c.self.inside in let long = ap length c.self.view_is in
    let first = leads_itself i.head i.boxes.blocks c.self.invariant.led (omega (arith, long, length-nodes_of i.boxes.blocks, c.requires)) in
    let row = first_row (unless_null i.head) i.boxes.blocks i.head (record {}) c.self.invariant.led first in (row.0, c.cut-front.ensures.0 ∙ row.1)
