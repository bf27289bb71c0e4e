use Rattle.std.proofs.Common.{take, ap, sym, ◌∙◌, subst}
use Rattle.cordyceps_base.specs.Nodes.{spots}
use Rattle.cordyceps_base.specs.Spots.{AreDistinct}
use Rattle.cordyceps_base.proofs.LineSpots.{flat_lines}
use Rattle.cordyceps_base.proofs.Nodes.{spots-nodes_of}
use Rattle.cordyceps_base.proofs.double_lines.Lines.are_distinct.Goals as goal

pub returns : goal.returns
returns g c =
    let i = c.self.inside in let ns = i.row.blocks in
    subst AreDistinct (sym (spots-nodes_of ns) ∙ ap spots (flat_lines (take i.count i.firsts) ns c.args.self.now c.self.invariant.lines c.self.view_is)) c.self.invariant.lines.distinct
