use Rattle.std.proofs.Common.{◌∙◌}
use Rattle.cordyceps_base.proofs.Segments.{sole_place}
use Rattle.cordyceps_base.proofs.double_chain.DoubleChain.link_only.Goals as goal

pub returns-clause-holds : goal.returns-clause-holds
returns-clause-holds g c =
    let one = sole_place c.one-one.result c.one-one.ensures.0 c.head-address.result.ptr c.args.node c.one-one.ensures.1 c.head-address.ensures in
    c.put.ensures ∙ c.distinct.ensures.0 ∙ one
