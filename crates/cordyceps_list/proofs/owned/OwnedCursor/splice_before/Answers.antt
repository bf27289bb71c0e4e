use Rattle.std.proofs.Common.{ℕ, ◌+◌, ap, ◌∙◌, sym, subst}
use Rattle.cordyceps_base.specs.Nodes.{elements}
use Rattle.cordyceps_base.proofs.Places.{elements-spliced}
use Rattle.cordyceps_list.specs.Position.{StandsAt}
use Rattle.cordyceps_list.proofs.Places.{stands_pushed}
use Rattle.cordyceps_list.proofs.owned.OwnedCursor.splice_before.Goals as goal

pub invariant_of-self : goal.invariant_of-self
invariant_of-self g c =
    let at = c.self.inside.at in
    let there = stands_pushed c.self.inside.chain c.splice.new.self c.args.nodes at.address at.index c.splice.ensures c.self.invariant in
    subst (λ (more : ℕ). StandsAt c.splice.new.self at.address (at.index + more)) (sym c.len-more.ensures) there

pub returns-clause-elements : goal.returns-clause-elements
returns-clause-elements g c =
    rw (← c.self.view_is) (ap elements c.splice.ensures ∙ elements-spliced c.self.inside.chain c.args.nodes c.self.inside.at.index)
