use Rattle.std.proofs.Common.{◌<◌, ◌+◌, ◌∷◌, drop, length, ap, ◌∙◌, arith}
use Rattle.std.proofs.lemmas.List.{length-map}
use Rattle.cordyceps_base.specs.Nodes.{elements}
use Rattle.cordyceps_base.proofs.Places.{elements-linked}
use Rattle.cordyceps_list.proofs.Places.{stands_kept}
use Rattle.cordyceps_list.proofs.owned.OwnedCursor.insert_after.Goals as goal

pub invariant_of-self : goal.invariant_of-self
invariant_of-self g c =
    let nodes = c.self.inside.chain in
    let at = c.self.inside.at in
    let inside : at.index < length nodes = omega (arith, c.requires.inside, ap (λ p. p.place) c.self.view_is, ap (λ p. length p.elements) c.self.view_is, length-map nodes (λ n. n.1)) in
    let (address, is) = c.link.ensures in
    stands_kept nodes c.link.new.self ((address, c.args.node) ∷ drop (at.index + 1) nodes) at.address at.index inside is c.self.invariant

pub returns-clause-elements : goal.returns-clause-elements
returns-clause-elements g c =
    let (address, is) = c.link.ensures in
    rw (← c.self.view_is) (ap elements is ∙ elements-linked c.self.inside.chain (c.self.inside.at.index + 1) address c.args.node)
