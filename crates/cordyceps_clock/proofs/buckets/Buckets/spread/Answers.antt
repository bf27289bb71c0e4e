use Rattle.std.proofs.Common.{None, refl, sym, ◌∙◌, ◌-◌, subst, [], arith}
use Rattle.std.proofs.lemmas.List.Sorted.{IsPermutation-refl}
use Rattle.cordyceps_stable.proofs.Holding.{spot_is_at}
use Rattle.cordyceps_clock.specs.Buckets.{number_at}
use Rattle.cordyceps_clock.proofs.Ends.{held_is}
use Rattle.cordyceps_clock.proofs.Firsts.{none_is}
use Rattle.cordyceps_clock.proofs.Spreads.{Stands, empty_first, turn, next_is, stands_on, ended, stuck}
use Rattle.cordyceps_clock.proofs.buckets.Buckets.spread.Goals as goal

pub loop-left-init : goal.loop-left-init
loop-left-init g c of j ahead others has long due s =
    let (e, after, is) = c.requires.first in
    record {
      stands = record { done = []; ahead = ahead; spreading = s; long = long; next = (e, after, sym s.parts ∙ is); stable = λ z. refl; moved = IsPermutation-refl ahead };
      empty = λ i over upto small. empty_first of c.args.clock c.args.self.now.ends c.args.self.now.list j ahead others s i upto small;
    }

pub next-next-requires : goal.next-next-requires
next-next-requires g c =
    let (of, j, ahead, others, has, long, due, s) = c.requires.ready in
    let st = subst (λ o. Stands of c.args.clock c.loop-left.self.ends c.loop-left.self.list j ahead others o c.loop-left.left) c.in-Some.is (c.loop-left.invariant of j ahead others has long due s).stands in
    let t = turn of c.args.clock c.loop-left.self.ends c.loop-left.self.list j ahead others c.in-Some.at c.loop-left.left (omega (arith, c.loop-left-test.true)) st in
    spot_is_at c.loop-left.self.list c.in-Some.at t.e (t.done, _, t.spreading.parts)

pub time_at-requires-clause-there : goal.time_at-requires-clause-there
time_at-requires-clause-there g c =
    let (of, j, ahead, others, has, long, due, s) = c.requires.ready in
    let st = subst (λ o. Stands of c.args.clock c.loop-left.self.ends c.loop-left.self.list j ahead others o c.loop-left.left) c.in-Some.is (c.loop-left.invariant of j ahead others has long due s).stands in
    let t = turn of c.args.clock c.loop-left.self.ends c.loop-left.self.list j ahead others c.in-Some.at c.loop-left.left (omega (arith, c.loop-left-test.true)) st in
    spot_is_at c.loop-left.self.list c.in-Some.at t.e (t.done, _, t.spreading.parts)

pub place-requires-clause-ready : goal.place-requires-clause-ready
place-requires-clause-ready g c =
    let (of, j, ahead, others, has, long, due, s) = c.requires.ready in
    let st = subst (λ o. Stands of c.args.clock c.loop-left.self.ends c.loop-left.self.list j ahead others o c.loop-left.left) c.in-Some.is (c.loop-left.invariant of j ahead others has long due s).stands in
    let t = turn of c.args.clock c.loop-left.self.ends c.loop-left.self.list j ahead others c.in-Some.at c.loop-left.left (omega (arith, c.loop-left-test.true)) st in
    let (v, holds, tells) = c.time_at.ensures in
    let numbered = held_is of c.args.clock c.bucket-k.result c.loop-left.self.list t.done _ c.in-Some.at t.e v c.time_at.result c.spots_are_distinct.ensures t.spreading.parts holds (tells of has) c.bucket-k.ensures.is in
    (number_at of c.args.clock, j, t.done, t.e, t.ahead, others, numbered, t.spreading)

pub place-requires-clause-low : goal.place-requires-clause-low
place-requires-clause-low g c = omega (arith, c.min.ensures)

pub place-requires-clause-empty : goal.place-requires-clause-empty
place-requires-clause-empty g c i over upto =
    let (of, j, ahead, others, has, long, due, s) = c.requires.ready in
    let inv = c.loop-left.invariant of j ahead others has long due s in
    let st = subst (λ o. Stands of c.args.clock c.loop-left.self.ends c.loop-left.self.list j ahead others o c.loop-left.left) c.in-Some.is inv.stands in
    let t = turn of c.args.clock c.loop-left.self.ends c.loop-left.self.list j ahead others c.in-Some.at c.loop-left.left (omega (arith, c.loop-left-test.true)) st in
    let (v, holds, tells) = c.time_at.ensures in
    let numbered = held_is of c.args.clock c.bucket-k.result c.loop-left.self.list t.done _ c.in-Some.at t.e v c.time_at.result c.spots_are_distinct.ensures t.spreading.parts holds (tells of has) c.bucket-k.ensures.is in
    inv.empty i (omega (arith, over, upto, c.min.ensures)) (omega (arith, upto, numbered, t.spreading.low.0)) (omega (arith, upto, c.bucket-k.ensures.within))

pub loop-left-preserved : goal.loop-left-preserved
loop-left-preserved g c of j ahead others has long due s =
    let clock = c.args.clock in let ends = c.loop-left.self.ends in let list = c.loop-left.self.list in let at = c.in-Some.at in let left = c.loop-left.left in
    let inv = c.loop-left.invariant of j ahead others has long due s in
    let st = subst (λ o. Stands of clock ends list j ahead others o left) c.in-Some.is inv.stands in
    let t = turn of clock ends list j ahead others at left (omega (arith, c.loop-left-test.true)) st in
    let (v, holds, tells) = c.time_at.ensures in
    let numbered = held_is of clock c.bucket-k.result list t.done _ at t.e v c.time_at.result c.spots_are_distinct.ensures t.spreading.parts holds (tells of has) c.bucket-k.ensures.is in
    let (more, spreading, put) = c.place.ensures.placed (number_at of clock) j t.done t.e t.ahead others numbered t.spreading in
    record {
      stands = stands_on of clock ends list j ahead others c.place.new.self.ends c.place.new.self.list more at left c.bucket-k.result c.next-next.result t c.ranges.clock.fits due numbered
          (next_is of clock ends list j ahead others at left t c.next-next.result c.spots_are_distinct.ensures c.next-next.ensures.step) spreading put (left - 1) (omega (arith, c.loop-left-test.true));
      empty = λ i over upto small. c.place.ensures.end.1 i (λ same. omega (arith, over, same, c.max-top.ensures)) ∙ inv.empty i (omega (arith, over, c.max-top.ensures)) upto small;
    }

pub returns-clause-spread : goal.returns-clause-spread
returns-clause-spread g c of j ahead others has long due s =
    ended of c.args.clock c.loop-left.self.ends c.loop-left.self.list j ahead others c.loop-left.next c.loop-left.left (c.loop-left.invariant of j ahead others has long due s).stands (omega (arith, c.loop-left-test.false))

pub returns-in_default-clause-spread : goal.returns-in_default-clause-spread
returns-in_default-clause-spread g c of j ahead others has long due s =
    let st = subst (λ o. Stands of c.args.clock c.loop-left.self.ends c.loop-left.self.list j ahead others o c.loop-left.left) (none_is c.loop-left.next c.in_default.not-Some) (c.loop-left.invariant of j ahead others has long due s).stands in
    absurd (stuck of c.args.clock c.loop-left.self.ends c.loop-left.self.list j ahead others None c.loop-left.left st (omega (arith, c.loop-left-test.true)))
