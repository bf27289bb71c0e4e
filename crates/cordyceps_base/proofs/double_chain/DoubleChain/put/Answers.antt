use Rattle.cordyceps_base.proofs.double_chain.DoubleChain.put.Goals as goal

pub discard-requires : goal.discard-requires
discard-requires g c = cc

pub returns : goal.returns
returns g c = cc
