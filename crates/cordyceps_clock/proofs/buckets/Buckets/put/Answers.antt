use Rattle.std.proofs.Common.{arith}
use Rattle.cordyceps_clock.proofs.Puts.{nearest_has, put_nearest, set_is}
use Rattle.cordyceps_clock.proofs.buckets.Buckets.put.Goals as goal

pub insert_behind-spot-requires-clause-there : goal.insert_behind-spot-requires-clause-there
insert_behind-spot-requires-clause-there g c =
    let (number, kept) = c.requires.kept in
    nearest_has number c.args.self.now.ends c.args.self.now.list c.args.k c.nearest_end-end.result c.requires.within kept
    c.nearest_end-end.ensures

pub returns-clause-put : goal.returns-clause-put
returns-clause-put g c number numbered kept =
    let ends = c.args.self.now.ends in let k = c.args.k in let spot = c.insert_behind-spot.result in
    put_nearest number ends _ c.args.self.now.list c.insert_behind-spot.new.list c.nearest_end-end.result spot
    (g.T.Linked.element c.args.handle) k c.requires.within c.spots_are_distinct.ensures kept c.nearest_end-end.ensures
    c.insert_behind-spot.ensures.inserted numbered (set_is ends k spot (omega arith) c.requires.within)
