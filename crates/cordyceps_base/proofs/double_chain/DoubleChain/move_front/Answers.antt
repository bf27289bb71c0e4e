use Rattle.std.proofs.Common.{◌≡◌, ◌++◌, length, ap, sym, ◌∙◌, arith}
use Rattle.cordyceps_base.specs.Nodes.{block_element, nodes_of}
use Rattle.cordyceps_base.proofs.double_chain.DoubleChain.move_front.Goals as goal

pub of_one-requires : goal.of_one-requires
of_one-requires g c = let (a, x, taken, one) = c.separate-rest.ensures.parts in (a, x, one)

pub join-requires : goal.join-requires
join-requires g c =
    let (a, x, taken, one) = c.separate-rest.ensures.parts in let fits = c.separate-rest.ensures.fits in
    let single : length c.of_one.result ≡ 1 = ap length (c.of_one.ensures ∙ ap nodes_of one) in omega (arith, fits, single)

pub returns : goal.returns
returns g c =
    let (a, x, (before, after, is, left), one) = c.separate-rest.ensures.parts in let rest = c.separate-rest.result.0 in
    (block_element x, rest, (before, after, sym c.take.ensures.0 ∙ is, left), c.put.ensures ∙ c.join.ensures ∙ ap (λ l. l ++ rest) (c.of_one.ensures ∙ ap nodes_of one))
