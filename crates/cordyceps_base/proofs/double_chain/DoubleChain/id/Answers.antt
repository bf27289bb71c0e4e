use Rattle.std.proofs.Common.{subst}
use Rattle.std.specs.Prelude.{◌≡◌, slice_get, Some}
use Rattle.cordyceps_base.specs.Element.{ids}
use Rattle.cordyceps_base.specs.Nodes.{elements}
use Rattle.cordyceps_base.proofs.Nodes.{at_place, id_on}
use Rattle.cordyceps_base.proofs.double_chain.DoubleChain.id.Goals as goal

pub get-requires : goal.get-requires
get-requires g c = at_place c.self.inside.boxes.blocks c.args.self.now c.self.view_is c.args.k c.args.at.ptr c.requires

pub returns : goal.returns
returns g c = subst (λ v. slice_get (ids (elements v)) c.args.k ≡ Some c.get.result.now.id) c.self.view_is (id_on c.self.inside.boxes.blocks c.args.k c.get.result.now c.get.ensures)
