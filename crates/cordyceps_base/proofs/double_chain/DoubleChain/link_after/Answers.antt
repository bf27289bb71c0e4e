use Rattle.std.proofs.Common.{sym, ◌∙◌}
use Rattle.cordyceps_base.proofs.double_chain.DoubleChain.link_after.Goals as goal

pub returns-clause-holds : goal.returns-clause-holds
returns-clause-holds g c = let (b, o, a, e, f) = c.with_after-nodes.ensures c.args.node c.row_of-one.ensures.holds in (b, o, a, sym c.take.ensures.0 ∙ e, c.put.ensures ∙ c.distinct.ensures.0 ∙ f)
