use Rattle.std.proofs.Common.{[], ◌∷◌, ap, ◌∙◌}
use Rattle.cordyceps_base.specs.Nodes.{elements}
use Rattle.cordyceps_base.proofs.Places.{elements-linked}
use Rattle.cordyceps_list.proofs.Places.{stands_pushed}
use Rattle.cordyceps_list.proofs.owned.OwnedCursor.insert_before.Goals as goal

pub invariant_of-self : goal.invariant_of-self
invariant_of-self g c =
    let at = c.self.inside.at in
    let (address, is) = c.link.ensures in
    stands_pushed c.self.inside.chain c.link.new.self ((address, c.args.node) ∷ []) at.address at.index is c.self.invariant

pub returns-clause-elements : goal.returns-clause-elements
returns-clause-elements g c =
    let (address, is) = c.link.ensures in
    rw (← c.self.view_is) (ap elements is ∙ elements-linked c.self.inside.chain c.self.inside.at.index address c.args.node)
