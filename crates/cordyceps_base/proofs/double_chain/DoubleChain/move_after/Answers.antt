use Rattle.std.proofs.Common.{ap, sym, ◌∙◌}
use Rattle.cordyceps_base.specs.Nodes.{block_element, nodes_of}
use Rattle.cordyceps_base.proofs.double_chain.DoubleChain.move_after.Goals as goal

pub with_after-requires-clause-there : goal.with_after-requires-clause-there
with_after-requires-clause-there g c =
    let (a, x, (before, after, is, left), one) = c.separate-rest.ensures.parts in
    c.requires.other (block_element x) c.separate-rest.result.0 (before, after, sym c.take.ensures.0 ∙ is, left)

pub with_after-requires-clause-one : goal.with_after-requires-clause-one
with_after-requires-clause-one g c = let (a, x, taken, one) = c.separate-rest.ensures.parts in (a, x, one)

pub returns : goal.returns
returns g c =
    let (a, x, (before, after, is, left), one) = c.separate-rest.ensures.parts in let rest = c.separate-rest.result.0 in
    let (b, o, t, e, f) = c.with_after.ensures (block_element x) (ap nodes_of one) in
    (block_element x, rest, (before, after, sym c.take.ensures.0 ∙ is, left), (b, o, t, e, c.put.ensures ∙ f))
