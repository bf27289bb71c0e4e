use Rattle.cordyceps_base.specs.declared.boxes.Address.{Address}
use Rattle.cordyceps_stable.proofs.Walk.{last_told}
use Rattle.cordyceps_stable.proofs.stable_list.is_last_at.Goals as goal

pub returns : goal.returns
returns g c = last_told (λ (a : Address). a.ptr) c.args.chain.now c.args.at.ptr c.next_at.result c.is_none.result c.requires.distinct c.is_none.ensures c.next_at.ensures
