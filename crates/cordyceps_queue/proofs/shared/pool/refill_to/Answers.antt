use Rattle.std.proofs.Common.{◌≤◌, ◌<◌, ◌+◌, length, arith}
use Rattle.cordyceps_queue.proofs.SharedTheory.PoolJoins.{refilled_to}
use Rattle.cordyceps_queue.proofs.shared.pool.refill_to.Goals as goal

pub returns-else-spare-had-clause-refills : goal.returns-else-spare-had-clause-refills
returns-else-spare-had-clause-refills g c =
    let m = c.args.seat.now.me in
    let p = c.refill.new.seat.me in
    let had = c.requires.rooms in
    let before = had.0.tracks.count in
    let after = c.refill.ensures.tracks.tracks.count in
    let above = c.if-spare-had.false in
    let low : c.args.had ≤ length m.0.free = omega arith in
    let more : c.args.had + c.args.most < length p.0.free = omega arith in
    refilled_to _ c.args.had c.args.most c.refill.result c.give_rest.result m p c.give_rest.new.seat.me c.refill.ensures.refills low more c.give_rest.ensures.gives c.give_rest.ensures.lacks
