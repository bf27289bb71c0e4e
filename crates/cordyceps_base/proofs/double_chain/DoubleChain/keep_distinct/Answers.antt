use Rattle.std.proofs.Common.{◌∙◌, sym, subst}
use Rattle.cordyceps_base.specs.Nodes.{spots}
use Rattle.cordyceps_base.specs.Spots.{AreDistinct}
use Rattle.cordyceps_base.proofs.double_chain.DoubleChain.keep_distinct.Goals as goal

pub returns : goal.returns
returns g c =
    let same = c.put.ensures ∙ c.distinct-differing.ensures.0 in (same ∙ c.take.ensures.0, subst (λ s. AreDistinct (spots s)) (sym same) c.distinct-differing.ensures.1)
