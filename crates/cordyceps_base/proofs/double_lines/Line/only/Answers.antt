use Rattle.std.proofs.Common.{sym, ◌∙◌}
use Rattle.cordyceps_base.proofs.LineEnds.{one_alone}
use Rattle.cordyceps_base.proofs.double_lines.Line.only.Goals as goal

pub node_of-requires : goal.node_of-requires
node_of-requires g c = one_alone c.self.inside.first.ptr c.self.inside.row.blocks c.args.self c.self.view_is c.self.invariant c.requires

pub returns : goal.returns
returns g c = (c.self.inside.first.ptr, sym c.self.view_is ∙ c.node_of.ensures)
