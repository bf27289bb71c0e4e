use Rattle.std.proofs.Common.{◌++◌, ◌∷◌, ap, sym, ◌∙◌}
use Rattle.cordyceps_base.specs.Nodes.{nodes_of}
use Rattle.cordyceps_base.proofs.Segments.{sole_element}
use Rattle.cordyceps_base.proofs.double_chain.DoubleChain.unlink_at.Goals as goal

pub node_of-requires : goal.node_of-requires
node_of-requires g c = let (a, x, taken, one) = c.separate-rest.ensures.parts in (a, x, one)

pub returns : goal.returns
returns g c =
    let (a, x, (before, after, is, left), one) = c.separate-rest.ensures.parts in let p = c.args.at.ptr in
    let same = sole_element (nodes_of c.separate-rest.result.1.blocks) p p _ c.node_of.result (ap nodes_of one) c.node_of.ensures in
    (before, after, sym c.take.ensures.0 ∙ is ∙ ap (λ n. before ++ (p, n) ∷ after) same, c.put.ensures ∙ left)
