use Rattle.cordyceps_base.proofs.single_chain.SingleChain.put.Goals as goal

pub discard-requires : goal.discard-requires
discard-requires g c = cc

pub returns : goal.returns
returns g c = cc
