use Rattle.std.proofs.Common.{take, drop, ap, ◌∙◌, sym}
use Rattle.std.specs.List.{take-map, drop-map}
use Rattle.cordyceps_base.specs.Nodes.{elements}
use Rattle.cordyceps_list.proofs.Places.{stands_first}
use Rattle.cordyceps_list.proofs.owned.OwnedCursor.split_before.Goals as goal

pub invariant_of-self : goal.invariant_of-self
invariant_of-self g c =
    let at = c.self.inside.at in
    stands_first c.self.inside.chain c.put.new.self at.address at.index (c.put.ensures ∙ c.split-front.ensures.back ∙ ap (drop at.index) c.take.ensures.0) c.self.invariant

pub returns-clause-split : goal.returns-clause-split
returns-clause-split g c =
    let index = c.self.inside.at.index in
    rw (← c.self.view_is) (ap elements (c.split-front.ensures.front ∙ ap (take index) c.take.ensures.0) ∙ sym (take-map (λ n. n.1) index c.self.inside.chain))

pub returns-clause-kept : goal.returns-clause-kept
returns-clause-kept g c =
    let index = c.self.inside.at.index in
    rw (← c.self.view_is) (ap elements (c.put.ensures ∙ c.split-front.ensures.back ∙ ap (drop index) c.take.ensures.0) ∙ sym (drop-map (λ n. n.1) index c.self.inside.chain))
