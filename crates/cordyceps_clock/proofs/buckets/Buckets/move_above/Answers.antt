use Rattle.std.proofs.Common.{arith}
use Rattle.cordyceps_clock.proofs.Puts.{at_nearest, nearest_above, set_is}
use Rattle.cordyceps_clock.proofs.buckets.Buckets.move_above.Goals as goal

pub move_behind-requires-clause-other : goal.move_behind-requires-clause-other
move_behind-requires-clause-other g c =
    at_nearest _ c.args.self.now.ends c.args.low c.nearest_end-end.result c.requires.others c.nearest_end-end.ensures

pub returns-clause-moved : goal.returns-clause-moved
returns-clause-moved g c = record {
  end = c.nearest_end-end.result;
  nearest = nearest_above c.args.self.now.ends c.args.low c.args.k c.nearest_end-end.result c.requires.low c.requires.empty c.nearest_end-end.ensures;
  moved = c.move_behind.ensures.moved;
}

pub returns-clause-end : goal.returns-clause-end
returns-clause-end g c = set_is c.args.self.now.ends c.args.k c.args.at (omega arith) c.requires.within
