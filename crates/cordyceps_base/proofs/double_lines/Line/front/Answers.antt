use Rattle.std.proofs.Common.{subst}
use Rattle.std.specs.Prelude.{◌≡◌, slice_get, Some}
use Rattle.cordyceps_base.specs.Element.{values}
use Rattle.cordyceps_base.specs.Nodes.{elements}
use Rattle.cordyceps_base.proofs.Nodes.{item_on}
use Rattle.cordyceps_base.proofs.LineEnds.{line_first}
use Rattle.cordyceps_base.proofs.double_lines.Line.front.Goals as goal

pub get-requires : goal.get-requires
get-requires g c = line_first c.self.inside.first.ptr c.self.inside.row.blocks c.args.self.now c.self.view_is c.self.invariant c.requires

pub returns : goal.returns
returns g c = subst (λ v. slice_get (values (elements v)) 0 ≡ Some c.get.result.now.value) c.self.view_is (item_on c.self.inside.row.blocks 0 c.get.result.now c.get.ensures)
