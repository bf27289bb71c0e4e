use Rattle.cordyceps_base.specs.declared.boxes.Address.{Address}
use Rattle.cordyceps_stable.proofs.Walk.{first_told}
use Rattle.cordyceps_stable.proofs.stable_list.is_first_at.Goals as goal

pub returns : goal.returns
returns g c = first_told (λ (a : Address). a.ptr) c.args.chain.now c.args.at.ptr c.prev_at.result c.is_none.result c.requires.distinct c.is_none.ensures c.prev_at.ensures
