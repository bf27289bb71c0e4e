use Rattle.std.proofs.Common.{length, sym, ap, ◌∙◌, arith}
use Rattle.cordyceps_tree.specs.Rows.{nodes_of}
use Rattle.cordyceps_tree.proofs.Saying.{long_nodes, gone_whole, headed, headed_next, headed_gone}
use Rattle.cordyceps_tree.proofs.rooted.Rooted.take_first.Goals as goal

pub invariant_of-self : goal.invariant_of-self
invariant_of-self g c =
    let ns = c.self.inside.row.boxes.blocks in let p = c.self.inside.first.ptr in
    let some = c.requires in let long = long_nodes ns ∙ ap length c.self.view_is in
    let h = headed ns p c.self.invariant.front (omega (arith, some, long)) in
    gone_whole ns c.removed-one.new.row.boxes.blocks c.self.inside.root.ptr c.removed-one.result.root.ptr p p c.neighbour-first.result.ptr c.self.inside.len c.removed-one.result.one.boxes.blocks
    c.self.invariant c.removed-one.ensures.tree c.removed-one.ensures.gone (headed_next ns p c.neighbour-first.result.ptr c.self.invariant.tree.distinct h c.neighbour-first.ensures)

pub returns : goal.returns
returns g c =
    let ns = c.self.inside.row.boxes.blocks in let p = c.self.inside.first.ptr in
    let some = c.requires in let long = long_nodes ns ∙ ap length c.self.view_is in
    let h = headed ns p c.self.invariant.front (omega (arith, some, long)) in
    let (e, is, one) = headed_gone ns p c.removed-one.result.one.boxes.blocks (nodes_of c.removed-one.new.row.boxes.blocks) c.self.invariant.tree.distinct h c.removed-one.ensures.gone in
    (e, sym c.self.view_is ∙ is, one)
