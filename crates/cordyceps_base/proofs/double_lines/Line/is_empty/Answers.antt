use Rattle.cordyceps_base.proofs.LineEnds.{line_testable, line_empty}
use Rattle.cordyceps_base.proofs.double_lines.Line.is_empty.Goals as goal

pub is_null-requires : goal.is_null-requires
is_null-requires g c = line_testable c.self.inside.first.ptr c.self.inside.row.blocks c.self.invariant

pub returns : goal.returns
returns g c = line_empty c.self.inside.first.ptr c.self.inside.row.blocks c.args.self.now c.is_null.result c.self.view_is c.self.invariant c.is_null.ensures
