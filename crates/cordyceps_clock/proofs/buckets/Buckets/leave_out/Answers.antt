use Rattle.std.proofs.Common.{◌<◌, arith}
use Rattle.cordyceps_clock.proofs.Ends.{held_is, left_kept}
use Rattle.cordyceps_clock.proofs.buckets.Buckets.leave_out.Goals as goal

pub returns-clause-kept : goal.returns-clause-kept
returns-clause-kept g c of e rest has kept taken =
    let clock = c.args.clock in let k = c.bucket-k.result in let list = c.args.self.now.list in
    let (low, high, was, left) = taken in let (v, holds, tells) = c.time_at.ensures in
    let distinct = c.spots_are_distinct.ensures in let at = c.args.at in
    let numbered =
    held_is of clock k list low high at e v c.time_at.result distinct was holds (tells of has) c.bucket-k.ensures.is in
    let small : k < 65 = omega (arith, c.bucket-k.ensures.within) in
    left_kept of clock k c.args.self.now.ends list rest at e c.end_without.result (omega arith) small kept taken numbered
    (c.end_without.ensures of e rest has kept taken numbered)
