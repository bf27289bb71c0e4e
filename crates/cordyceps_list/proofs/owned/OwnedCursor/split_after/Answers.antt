use Rattle.std.proofs.Common.{◌<◌, ◌+◌, length, take, drop, ap, ◌∙◌, sym, arith}
use Rattle.std.proofs.lemmas.List.{length-map}
use Rattle.std.specs.List.{take-map, drop-map}
use Rattle.cordyceps_base.specs.Nodes.{elements}
use Rattle.cordyceps_list.proofs.Places.{stands_last}
use Rattle.cordyceps_list.proofs.owned.OwnedCursor.split_after.Goals as goal

pub invariant_of-self : goal.invariant_of-self
invariant_of-self g c =
    let nodes = c.self.inside.chain in
    let at = c.self.inside.at in
    let inside : at.index < length nodes = omega (arith, c.requires, ap (λ p. p.place) c.self.view_is, ap (λ p. length p.elements) c.self.view_is, length-map nodes (λ n. n.1)) in
    stands_last nodes c.put.new.self at.address at.index inside (c.put.ensures ∙ c.cut_after-front.ensures.0 ∙ ap (take (at.index + 1)) c.take.ensures.0) c.self.invariant

pub returns-clause-split : goal.returns-clause-split
returns-clause-split g c =
    let index = c.self.inside.at.index + 1 in
    rw (← c.self.view_is) (ap elements (c.cut_after-front.ensures.1 ∙ ap (drop index) c.take.ensures.0) ∙ sym (drop-map (λ n. n.1) index c.self.inside.chain))

pub returns-clause-kept : goal.returns-clause-kept
returns-clause-kept g c =
    let index = c.self.inside.at.index + 1 in
    rw (← c.self.view_is) (ap elements (c.put.ensures ∙ c.cut_after-front.ensures.0 ∙ ap (take index) c.take.ensures.0) ∙ sym (take-map (λ n. n.1) index c.self.inside.chain))
