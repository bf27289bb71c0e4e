use Rattle.std.proofs.Common.{◌≡◌, slice_get, Some, ap, ◌∙◌, sym, subst, rules}
use Rattle.cordyceps_base.specs.Element.{values}
use Rattle.cordyceps_base.specs.Nodes.{elements, nodes_of}
use Rattle.cordyceps_base.proofs.Nodes.{item_on}
use Rattle.cordyceps_base.proofs.SingleChain.{first_at, no_first}
use Rattle.cordyceps_base.proofs.single_chain.Cursor.current.Goals as goal

pub get-requires : goal.get-requires
get-requires g c = first_at c.self.inside.at c.self.inside.rest.blocks c.in-Some.at c.self.invariant.rest_led c.in-Some.is

pub returns-in-Some-clause-some : goal.returns-in-Some-clause-some
returns-in-Some-clause-some g c = subst (λ v. slice_get (values (elements v.rest)) 0 ≡ Some c.get.result.now.value) c.self.view_is (item_on c.self.inside.rest.blocks 0 c.get.result.now c.get.ensures)

pub returns-in-Some-clause-none : goal.returns-in-Some-clause-none
returns-in-Some-clause-none g c = search rules

pub returns-in-None-clause-none : goal.returns-in-None-clause-none
returns-in-None-clause-none g c = ap (λ v. v.rest) (sym c.self.view_is) ∙ ap nodes_of (no_first c.self.inside.at c.self.inside.rest.blocks c.self.invariant.rest_led c.in-None.is)
