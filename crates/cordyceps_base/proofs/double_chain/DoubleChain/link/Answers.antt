use Rattle.std.proofs.Common.{rules, arith}
use Rattle.std.proofs.lemmas.Grind.{common_steps}
use Rattle.cordyceps_base.proofs.double_chain.DoubleChain.link.Goals as goal

pub returns-then-k-eq0 : goal.returns-then-k-eq0
returns-then-k-eq0 g c = (c.link_front.result.ptr, search rules)

pub returns-then-k-self : goal.returns-then-k-self
returns-then-k-self g c = (c.link_back.result.ptr, grind (arith, common_steps))

pub returns : goal.returns
returns g c = c.link_inner.ensures
