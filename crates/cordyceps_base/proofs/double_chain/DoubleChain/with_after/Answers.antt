use Rattle.std.proofs.Common.{◌++◌, ap, ◌∙◌, refl}
use Rattle.cordyceps_base.specs.Nodes.{nodes_of, block_of, block_element}
use Rattle.cordyceps_base.proofs.Segments.{cut, rest_linked, rest_comparable, taken_is, upto_linked, upto_tested, upto_shown, upto_lengths}
use Rattle.cordyceps_base.proofs.double_chain.DoubleChain.with_after.Goals as goal

pub get-requires : goal.get-requires
get-requires g c =
    let u = cut c.self.view_is c.requires.there c.self.invariant c.cut_at-front.ensures in
    u.there

pub of_parts-requires-clause-front : goal.of_parts-requires-clause-front
of_parts-requires-clause-front g c =
    let u = cut c.self.view_is c.requires.there c.self.invariant c.cut_at-front.ensures in
    upto_linked u c.cut-same.result.0.blocks c.join.result.blocks c.cut-same.result.1.blocks c.cut-same.ensures.0 c.join.ensures c.cut-same.ensures.1 c.self.invariant.segment

pub of_parts-requires-clause-back : goal.of_parts-requires-clause-back
of_parts-requires-clause-back g c =
    let u = cut c.self.view_is c.requires.there c.self.invariant c.cut_at-front.ensures in
    rest_linked u c.get.result.now c.cut-same.result.1.blocks c.get.ensures c.cut-same.ensures.1

pub of_parts-requires-clause-front_comparable : goal.of_parts-requires-clause-front_comparable
of_parts-requires-clause-front_comparable g c =
    let u = cut c.self.view_is c.requires.there c.self.invariant c.cut_at-front.ensures in
    upto_tested u c.cut-same.result.0.blocks c.join.result.blocks c.cut-same.result.1.blocks c.cut-same.ensures.0 c.join.ensures c.cut-same.ensures.1 c.self.invariant.comparable

pub of_parts-requires-clause-back_comparable : goal.of_parts-requires-clause-back_comparable
of_parts-requires-clause-back_comparable g c =
    let u = cut c.self.view_is c.requires.there c.self.invariant c.cut_at-front.ensures in
    rest_comparable u c.cut-same.result.1.blocks c.cut-same.ensures.1 c.self.invariant.comparable

pub of_parts-requires-clause-len : goal.of_parts-requires-clause-len
of_parts-requires-clause-len g c =
    let u = cut c.self.view_is c.requires.there c.self.invariant c.cut_at-front.ensures in
    c.self.invariant.long ∙ upto_lengths u c.cut-same.result.0.blocks c.join.result.blocks c.cut-same.result.1.blocks c.cut-same.ensures.0 c.join.ensures c.cut-same.ensures.1

pub returns : goal.returns
returns g c e is =
    let u = cut c.self.view_is c.requires.there c.self.invariant c.cut_at-front.ensures in
    let front = c.join.result.blocks in let back = c.cut-same.result.1.blocks in
    (nodes_of c.cut_at-front.result.0.blocks, block_element (block_of u.node), nodes_of u.after, taken_is u c.args.self (block_of u.node) c.self.view_is refl, upto_shown u c.cut-same.result.0.blocks front back c.cut-same.ensures.0 c.join.ensures c.cut-same.ensures.1 _ _ (c.of_parts.ensures ∙ ap (λ l. nodes_of front ++ (l ++ nodes_of back)) is))
