use Rattle.std.proofs.Common.{refl}
use Rattle.cordyceps.proofs.Spots.ValueAt.{held_value}
use Rattle.cordyceps_uses.proofs.ByKey.{taken_out}
use Rattle.cordyceps_uses.proofs.keyed.take_out.Goals as goal

pub returns : goal.returns
returns g c =
    let m = c.args.map.now in let n = c.remove_at.result in let r = c.remove_at.ensures in let (before, after, was, left) = r.taken in
    let there = held_value m.nodes c.args.at n.value c.lists_agree.ensures.distinct (before, n.id, after, was) in
    taken_out g.K.PartialEq.eq m c.lists_agree.ensures c.args.at n.value there g.H.Rows.count g.met.H.Rows.some n refl c.remove_at.new.self r.taken r.lists
