use Rattle.std.proofs.Common.{sym, ap, ◌∙◌, subst, arith}
use Rattle.cordyceps_base.specs.Boxes.{box_addresses}
use Rattle.cordyceps_base.specs.Nodes.{nodes_of}
use Rattle.cordyceps_base.specs.Spots.{AreNullComparable}
use Rattle.cordyceps_base.proofs.Nodes.{length_is}
use Rattle.cordyceps_base.proofs.LineEnds.{line_first, rest_line, first_alone, cut_shown}
use Rattle.cordyceps_base.proofs.double_lines.Line.cut_first.Goals as goal

pub get-requires : goal.get-requires
get-requires g c = line_first c.self.inside.first.ptr c.self.inside.row.blocks c.args.self c.self.view_is c.self.invariant c.requires

pub invariant_of-left : goal.invariant_of-left
invariant_of-left g c =
    let ns = c.self.inside.row.blocks in let h = c.self.inside.first.ptr in let long = length_is ns c.args.self c.self.view_is in let asked = c.requires in
    rest_line h ns c.null_comparable.result.blocks c.get.result.now c.self.invariant (omega (arith, long, asked)) c.get.ensures (c.null_comparable.ensures.0 ∙ c.cut-one.ensures.1)
    (subst (λ ls. AreNullComparable (box_addresses ls)) (sym c.null_comparable.ensures.0) c.null_comparable.ensures.1)

pub alone-requires : goal.alone-requires
alone-requires g c =
    let ns = c.self.inside.row.blocks in let h = c.self.inside.first.ptr in let long = length_is ns c.args.self c.self.view_is in let asked = c.requires in
    first_alone h ns c.cut-one.result.0.blocks c.self.invariant (omega (arith, long, asked)) c.cut-one.ensures.0

pub returns : goal.returns
returns g c =
    let ns = c.self.inside.row.blocks in let h = c.self.inside.first.ptr in let long = length_is ns c.args.self c.self.view_is in let asked = c.requires in
    let (e, one, whole) = cut_shown h ns c.cut-one.result.0.blocks c.cut-one.result.1.blocks c.args.self (nodes_of c.null_comparable.result.blocks) c.self.view_is c.self.invariant (omega (arith, long, asked)) c.cut-one.ensures.0 c.cut-one.ensures.1
    (ap nodes_of (sym c.null_comparable.ensures.0)) in
    (h, e, c.alone.ensures ∙ one, whole)
