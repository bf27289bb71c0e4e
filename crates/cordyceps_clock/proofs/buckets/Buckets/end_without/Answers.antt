use Rattle.std.proofs.Common.{◌∙◌, false, Some, None, refl, arith}
use Rattle.std.proofs.lemmas.List.{get_or_default}
use Rattle.cordyceps_stable.proofs.Reached.{next_spot, prev_has}
use Rattle.cordyceps_clock.proofs.Ends.{left_stays, left_ended}
use Rattle.cordyceps_clock.proofs.buckets.Buckets.end_without.Goals as goal

pub is_in-requires-clause-there : goal.is_in-requires-clause-there
is_in-requires-clause-there g c = next_spot c.args.self.now.list c.args.at c.next.result c.next.ensures.step

pub returns-then-is_in : goal.returns-then-is_in
returns-then-is_in g c of e rest has kept taken numbered =
    get_or_default c.args.self.now.ends c.args.k _ None (omega (arith, c.requires.within))
    ∙ left_stays of c.args.clock c.args.k c.args.self.now.ends c.args.self.now.list rest c.args.at e c.next.result c.is_in.result c.requires.within c.requires.distinct kept taken numbered c.next.ensures.step (c.is_in.ensures of has) c.if-is_in.true

pub is_in-requires-in-Some-clause-there : goal.is_in-requires-in-Some-clause-there
is_in-requires-in-Some-clause-there g c = prev_has c.args.self.now.list c.in-Some.before c.args.at c.in-Some.ensures.step

pub returns-then-is_in-2 : goal.returns-then-is_in-2
returns-then-is_in-2 g c of e rest has kept taken numbered =
    (left_ended of c.args.clock c.args.k c.args.self.now.ends c.args.self.now.list rest c.args.at e c.next.result (Some c.in-Some.before) c.is_in.result c.is_in-in-Some.result c.requires.distinct kept taken numbered c.next.ensures.step (c.is_in.ensures of has) c.if-is_in.false c.in-Some.ensures.step (c.is_in-in-Some.ensures of has)).0 c.if-is_in-2.true

pub returns-else-is_in-2 : goal.returns-else-is_in-2
returns-else-is_in-2 g c of e rest has kept taken numbered =
    (left_ended of c.args.clock c.args.k c.args.self.now.ends c.args.self.now.list rest c.args.at e c.next.result (Some c.in-Some.before) c.is_in.result c.is_in-in-Some.result c.requires.distinct kept taken numbered c.next.ensures.step (c.is_in.ensures of has) c.if-is_in.false c.in-Some.ensures.step (c.is_in-in-Some.ensures of has)).1 c.if-is_in-2.false

pub returns-in-None : goal.returns-in-None
returns-in-None g c of e rest has kept taken numbered =
    (left_ended of c.args.clock c.args.k c.args.self.now.ends c.args.self.now.list rest c.args.at e c.next.result None c.is_in.result false c.requires.distinct kept taken numbered c.next.ensures.step (c.is_in.ensures of has) c.if-is_in.false c.in-None.ensures.step refl).1 refl
