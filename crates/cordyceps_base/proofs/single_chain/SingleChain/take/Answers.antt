use Rattle.cordyceps_base.proofs.single_chain.SingleChain.take.Goals as goal

pub returns : goal.returns
returns g c = (cc, cc)
