use Rattle.std.proofs.Common.{◌++◌, ap, ◌∙◌, refl}
use Rattle.cordyceps_base.specs.Nodes.{nodes_of, block_of, block_element}
use Rattle.cordyceps_base.proofs.Segments.{cut, front_linked, back_linked, front_comparable, all_comparable, both_lengths, taken_is, back_shown}
use Rattle.cordyceps_base.proofs.double_chain.DoubleChain.with_before.Goals as goal

pub get-requires : goal.get-requires
get-requires g c =
    let u = cut c.self.view_is c.requires.there c.self.invariant c.cut_at-front.ensures in
    u.there

pub of_parts-requires-clause-front : goal.of_parts-requires-clause-front
of_parts-requires-clause-front g c =
    let u = cut c.self.view_is c.requires.there c.self.invariant c.cut_at-front.ensures in
    front_linked u c.get.result.now c.get.ensures

pub of_parts-requires-clause-back : goal.of_parts-requires-clause-back
of_parts-requires-clause-back g c =
    let u = cut c.self.view_is c.requires.there c.self.invariant c.cut_at-front.ensures in
    back_linked u

pub of_parts-requires-clause-front_comparable : goal.of_parts-requires-clause-front_comparable
of_parts-requires-clause-front_comparable g c =
    let u = cut c.self.view_is c.requires.there c.self.invariant c.cut_at-front.ensures in
    front_comparable u c.self.invariant.comparable

pub of_parts-requires-clause-back_comparable : goal.of_parts-requires-clause-back_comparable
of_parts-requires-clause-back_comparable g c =
    let u = cut c.self.view_is c.requires.there c.self.invariant c.cut_at-front.ensures in
    all_comparable u c.self.invariant.comparable

pub of_parts-requires-clause-len : goal.of_parts-requires-clause-len
of_parts-requires-clause-len g c =
    let u = cut c.self.view_is c.requires.there c.self.invariant c.cut_at-front.ensures in
    c.self.invariant.long ∙ both_lengths u

pub returns : goal.returns
returns g c e is =
    let u = cut c.self.view_is c.requires.there c.self.invariant c.cut_at-front.ensures in
    let front = nodes_of c.cut_at-front.result.0.blocks in let back = nodes_of c.cut_at-front.result.1.blocks in
    (front, block_element (block_of u.node), nodes_of u.after, taken_is u c.args.self (block_of u.node) c.self.view_is refl, back_shown u _ _ (c.of_parts.ensures ∙ ap (λ l. front ++ (l ++ back)) is))
