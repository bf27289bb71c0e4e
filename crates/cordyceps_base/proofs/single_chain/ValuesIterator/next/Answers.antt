use Rattle.std.proofs.Common.{ap, ◌∙◌, sym}
use Rattle.cordyceps_base.specs.SingleChain.{values_in}
use Rattle.cordyceps_base.proofs.SingleChain.{first_at, no_first, next_testable}
use Rattle.cordyceps_base.proofs.single_chain.ValuesIterator.next.Goals as goal

pub get-block-requires : goal.get-block-requires
get-block-requires g c = first_at c.self.inside.next c.self.inside.rest.now.blocks c.in-Some.at c.self.invariant.0 c.in-Some.is

pub not_null-self-inside-requires : goal.not_null-self-inside-requires
not_null-self-inside-requires g c = next_testable c.self.inside.next c.self.inside.rest.now.blocks c.get-block.result.now c.self.invariant.0 c.self.invariant.1 c.get-block.ensures

pub returns-in-None-clause-steps : goal.returns-in-None-clause-steps
returns-in-None-clause-steps g c =
    let none = sym c.self.view_is ∙ ap values_in (no_first c.self.inside.next c.self.inside.rest.now.blocks c.self.invariant.0 c.in-None.is) in (none, none)
