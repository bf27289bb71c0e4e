use Rattle.std.proofs.Common.{rules, subst, sym}
use Rattle.cordyceps_base.specs.Nodes.{spots}
use Rattle.cordyceps_base.specs.Spots.{index_of, AreDistinct}
use Rattle.cordyceps_base.proofs.Places.{spots-with_item}
use Rattle.cordyceps_stable.proofs.Valid.{written_keeps}
use Rattle.cordyceps_stable.proofs.stable_list.StableList.get_mut.Goals as goal

pub invariant_of-self-lent : goal.invariant_of-self-lent
invariant_of-self-lent g c =
    let nodes = c.self.inside.chain in
    λ w. subst AreDistinct (sym (spots-with_item nodes (index_of c.at.inside.address.ptr (spots nodes)) w)) c.self.invariant

pub returns : goal.returns
returns g c = (search rules, record { writes_back = tt; value = search rules; kept = λ w. written_keeps _ _ w })
