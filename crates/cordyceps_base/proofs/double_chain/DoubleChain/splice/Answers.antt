use Rattle.std.proofs.Common.{refl}
use Rattle.cordyceps_base.proofs.double_chain.DoubleChain.splice.Goals as goal

pub returns : goal.returns
returns g c =
    let cut = c.split-front.ensures in rw (c.put.ensures, c.join-2.ensures, c.join.ensures, cut.front, cut.back, c.take.ensures.0) refl
