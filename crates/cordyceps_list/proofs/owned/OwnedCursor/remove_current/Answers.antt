use Rattle.std.proofs.Common.{◌<◌, length, ap, ◌∙◌, arith}
use Rattle.std.proofs.lemmas.List.{length-map}
use Rattle.cordyceps_base.specs.Nodes.{elements}
use Rattle.cordyceps_base.proofs.Places.{elements-unlinked, element-at}
use Rattle.cordyceps_list.proofs.Places.{stands_next}
use Rattle.cordyceps_list.proofs.owned.OwnedCursor.remove_current.Goals as goal

pub invariant_of-self : goal.invariant_of-self
invariant_of-self g c =
    let nodes = c.self.inside.chain in
    let index = c.self.inside.at.index in
    let inside : index < length nodes = omega (arith, c.requires, ap (λ p. p.place) c.self.view_is, ap (λ p. length p.elements) c.self.view_is, length-map nodes (λ n. n.1)) in
    stands_next nodes c.unlink.new.self c.next-self-inside.result index inside c.unlink.ensures.others c.next-self-inside.ensures.on

pub returns-clause-node : goal.returns-clause-node
returns-clause-node g c =
    let (address, is) = c.unlink.ensures.node in
    rw (← c.self.view_is) (element-at c.self.inside.chain c.self.inside.at.index address c.unlink.result is)

pub returns-clause-others : goal.returns-clause-others
returns-clause-others g c =
    rw (← c.self.view_is) (ap elements c.unlink.ensures.others ∙ elements-unlinked c.self.inside.chain c.self.inside.at.index)
