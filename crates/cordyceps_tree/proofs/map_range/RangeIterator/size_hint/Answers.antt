use Rattle.std.proofs.Common.{length, ap, arith}
use Rattle.cordyceps_tree.specs.Walks.{walk_from}
use Rattle.cordyceps_tree.proofs.Ranges.{until_long}
use Rattle.cordyceps_tree.proofs.Walks.{from_long}
use Rattle.cordyceps_tree.proofs.map_range.RangeIterator.size_hint.Goals as goal

pub returns-clause-upper : goal.returns-clause-upper
returns-clause-upper g c =
    let t = c.self.inside.tree.now in let at = c.self.inside.at in
    let seen = ap length c.self.view_is in let less = until_long g.K.Ord.cmp g.met.K.Ord.total c.self.inside.high.now (walk_from t at) in let all = from_long t at in let len = c.len.ensures in
    (tt, omega (arith, seen, less, all, len))
