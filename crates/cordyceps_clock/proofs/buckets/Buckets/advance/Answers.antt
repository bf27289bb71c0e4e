use Rattle.std.proofs.Common.{[], refl, inl, inr, arith}
use Rattle.std.specs.Ordering.{nat_cmp}
use Rattle.cordyceps_single.specs.ByKey.{by_key}
use Rattle.cordyceps_stable.specs.Arranged.{precedes}
use Rattle.cordyceps_clock.proofs.Advances.{due_already, opened_at, unmoved_later, unmoved_timed}
use Rattle.cordyceps_clock.proofs.Ends.{held_is}
use Rattle.cordyceps_clock.proofs.buckets.Buckets.advance.Goals as goal

pub returns-then-k-eq0-clause-due : goal.returns-then-k-eq0-clause-due
returns-then-k-eq0-clause-due g c of has =
    let (e, after, is) = c.requires.first in let (v, holds, tells) = c.time_at.ensures in
    let at = held_is of c.args.clock c.bucket-k.result c.args.self.now.list [] after c.args.at e v c.time_at.result c.spots_are_distinct.ensures is holds (tells of has) c.bucket-k.ensures.is in
    inl (c.args.at, e, after, is, due_already of c.args.clock c.args.self.now.ends c.args.self.now.list c.ranges.clock.fits (c.requires.timed of has) c.args.at e after c.bucket-k.result is at c.if-k-eq0.true)

pub returns-then-to-k-clause-timed : goal.returns-then-to-k-clause-timed
returns-then-to-k-clause-timed g c of has =
    let (e, after, is) = c.requires.first in let (v, holds, tells) = c.time_at.ensures in let timed = c.requires.timed of has in
    let at = held_is of c.args.clock c.bucket-k.result c.args.self.now.list [] after c.args.at e v c.time_at.result c.spots_are_distinct.ensures is holds (tells of has) c.bucket-k.ensures.is in
    let under = unmoved_timed of c.args.clock c.args.self.now.ends c.args.self.now.list c.ranges.clock.fits timed c.args.until c.args.at e after c.bucket-k.result is at (omega (arith, c.if-to-k.true, c.bucket-to.ensures.is)) c.ranges.until.fits in
    under

pub returns-then-to-k-clause-due : goal.returns-then-to-k-clause-due
returns-then-to-k-clause-due g c of has =
    let (e, after, is) = c.requires.first in let (v, holds, tells) = c.time_at.ensures in let timed = c.requires.timed of has in
    let at = held_is of c.args.clock c.bucket-k.result c.args.self.now.list [] after c.args.at e v c.time_at.result c.spots_are_distinct.ensures is holds (tells of has) c.bucket-k.ensures.is in
    let under = unmoved_later of c.args.clock c.args.self.now.ends c.args.self.now.list c.ranges.clock.fits timed c.args.until c.args.at e after c.bucket-k.result is at (omega (arith, c.if-to-k.true, c.bucket-to.ensures.is)) c.ranges.until.fits in
    inr (refl, under)

pub spread-requires-clause-ready : goal.spread-requires-clause-ready
spread-requires-clause-ready g c =
    let (of, has) = g.met.O.Times.computes c.args.times.now c.requires.callable in
    let (e, after, is) = c.requires.first in let (v, holds, tells) = c.time_at.ensures in let timed = c.requires.timed of has in
    let at = held_is of c.args.clock c.bucket-k.result c.args.self.now.list [] after c.args.at e v c.time_at.result c.spots_are_distinct.ensures is holds (tells of has) c.bucket-k.ensures.is in
    let o = opened_at of c.args.clock c.args.self.now.ends c.args.self.now.list c.ranges.clock.fits timed c.bucket-k.result c.min-next.result c.first_bucket-least.result.least c.first_bucket-least.result.at c.first_bucket-least.result.len c.args.until
    c.if-k-eq0.false (omega (arith, c.bucket-k.ensures.within)) (omega arith) c.requires.later c.ranges.until.fits (omega (arith, c.if-to-k.false, c.bucket-to.ensures.is)) c.min-next.ensures (c.first_bucket-least.ensures of e after has timed.kept.ascends is at) in
    (of, o.j, o.first, o.others, has, o.long, o.due, o.spreading)

pub returns-clause-timed : goal.returns-clause-timed
returns-clause-timed g c of has =
    let (e, after, is) = c.requires.first in let (v, holds, tells) = c.time_at.ensures in let timed = c.requires.timed of has in
    let at = held_is of c.args.clock c.bucket-k.result c.args.self.now.list [] after c.args.at e v c.time_at.result c.spots_are_distinct.ensures is holds (tells of has) c.bucket-k.ensures.is in
    let o = opened_at of c.args.clock c.args.self.now.ends c.args.self.now.list c.ranges.clock.fits timed c.bucket-k.result c.min-next.result c.first_bucket-least.result.least c.first_bucket-least.result.at c.first_bucket-least.result.len c.args.until
    c.if-k-eq0.false (omega (arith, c.bucket-k.ensures.within)) (omega arith) c.requires.later c.ranges.until.fits (omega (arith, c.if-to-k.false, c.bucket-to.ensures.is)) c.min-next.ensures (c.first_bucket-least.ensures of e after has timed.kept.ascends is at) in
    let (done, s, stable, moved) = c.spread.ensures.spread of o.j o.first o.others has o.long o.due o.spreading in
    o.advanced c.spread.new.self.ends c.spread.new.self.list done s moved

pub returns-clause-due : goal.returns-clause-due
returns-clause-due g c of has =
    let (e, after, is) = c.requires.first in let (v, holds, tells) = c.time_at.ensures in let timed = c.requires.timed of has in
    let at = held_is of c.args.clock c.bucket-k.result c.args.self.now.list [] after c.args.at e v c.time_at.result c.spots_are_distinct.ensures is holds (tells of has) c.bucket-k.ensures.is in
    let o = opened_at of c.args.clock c.args.self.now.ends c.args.self.now.list c.ranges.clock.fits timed c.bucket-k.result c.min-next.result c.first_bucket-least.result.least c.first_bucket-least.result.at c.first_bucket-least.result.len c.args.until
    c.if-k-eq0.false (omega (arith, c.bucket-k.ensures.within)) (omega arith) c.requires.later c.ranges.until.fits (omega (arith, c.if-to-k.false, c.bucket-to.ensures.is)) c.min-next.ensures (c.first_bucket-least.ensures of e after has timed.kept.ascends is at) in
    let (done, s, stable, moved) = c.spread.ensures.spread of o.j o.first o.others has o.long o.due o.spreading in
    o.reached c.spread.new.self.ends c.spread.new.self.list done s moved

pub returns-clause-stable : goal.returns-clause-stable
returns-clause-stable g c of has =
    let (e, after, is) = c.requires.first in let (v, holds, tells) = c.time_at.ensures in let timed = c.requires.timed of has in
    let at = held_is of c.args.clock c.bucket-k.result c.args.self.now.list [] after c.args.at e v c.time_at.result c.spots_are_distinct.ensures is holds (tells of has) c.bucket-k.ensures.is in
    let o = opened_at of c.args.clock c.args.self.now.ends c.args.self.now.list c.ranges.clock.fits timed c.bucket-k.result c.min-next.result c.first_bucket-least.result.least c.first_bucket-least.result.at c.first_bucket-least.result.len c.args.until
    c.if-k-eq0.false (omega (arith, c.bucket-k.ensures.within)) (omega arith) c.requires.later c.ranges.until.fits (omega (arith, c.if-to-k.false, c.bucket-to.ensures.is)) c.min-next.ensures (c.first_bucket-least.ensures of e after has timed.kept.ascends is at) in
    let (done, s, stable, moved) = c.spread.ensures.spread of o.j o.first o.others has o.long o.due o.spreading in
    o.still (precedes (by_key nat_cmp of)) c.spread.new.self.ends c.spread.new.self.list done s stable

pub returns-clause-kept : goal.returns-clause-kept
returns-clause-kept g c =
    let (of, has) = g.met.O.Times.computes c.args.times.now c.requires.callable in
    let (e, after, is) = c.requires.first in let (v, holds, tells) = c.time_at.ensures in let timed = c.requires.timed of has in
    let at = held_is of c.args.clock c.bucket-k.result c.args.self.now.list [] after c.args.at e v c.time_at.result c.spots_are_distinct.ensures is holds (tells of has) c.bucket-k.ensures.is in
    let o = opened_at of c.args.clock c.args.self.now.ends c.args.self.now.list c.ranges.clock.fits timed c.bucket-k.result c.min-next.result c.first_bucket-least.result.least c.first_bucket-least.result.at c.first_bucket-least.result.len c.args.until
    c.if-k-eq0.false (omega (arith, c.bucket-k.ensures.within)) (omega arith) c.requires.later c.ranges.until.fits (omega (arith, c.if-to-k.false, c.bucket-to.ensures.is)) c.min-next.ensures (c.first_bucket-least.ensures of e after has timed.kept.ascends is at) in
    let (done, s, stable, moved) = c.spread.ensures.spread of o.j o.first o.others has o.long o.due o.spreading in
    o.same_nodes c.spread.new.self.ends c.spread.new.self.list done s moved

pub returns-clause-within : goal.returns-clause-within
returns-clause-within g c =
    let (of, has) = g.met.O.Times.computes c.args.times.now c.requires.callable in
    let (e, after, is) = c.requires.first in let (v, holds, tells) = c.time_at.ensures in let timed = c.requires.timed of has in
    let at = held_is of c.args.clock c.bucket-k.result c.args.self.now.list [] after c.args.at e v c.time_at.result c.spots_are_distinct.ensures is holds (tells of has) c.bucket-k.ensures.is in
    let o = opened_at of c.args.clock c.args.self.now.ends c.args.self.now.list c.ranges.clock.fits timed c.bucket-k.result c.min-next.result c.first_bucket-least.result.least c.first_bucket-least.result.at c.first_bucket-least.result.len c.args.until
    c.if-k-eq0.false (omega (arith, c.bucket-k.ensures.within)) (omega arith) c.requires.later c.ranges.until.fits (omega (arith, c.if-to-k.false, c.bucket-to.ensures.is)) c.min-next.ensures (c.first_bucket-least.ensures of e after has timed.kept.ascends is at) in
    (o.later, omega (arith, c.min-next.ensures))
