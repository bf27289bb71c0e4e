use Rattle.cordyceps_stable.proofs.Holding.{spot_is_at}
use Rattle.std.proofs.Common.{Some}
use Rattle.cordyceps_clock.proofs.Puts.{nearest_above}
use Rattle.cordyceps_clock.proofs.Spreads.{end_there, end_other, placed_in}
use Rattle.cordyceps_clock.proofs.buckets.Buckets.place.Goals as goal

pub move_above-requires-clause-there : goal.move_above-requires-clause-there
move_above-requires-clause-there g c =
    let (number, j, done, e, ahead, others, numbered, s) = c.requires.ready in
    spot_is_at c.args.self.now.list c.args.at e (done, _, s.parts)

pub move_above-requires-clause-others : goal.move_above-requires-clause-others
move_above-requires-clause-others g c to low_near =
    let (number, j, done, e, ahead, others, numbered, s) = c.requires.ready in
    let ends = c.args.self.now.ends in let list = c.args.self.now.list in let k = c.args.k in let at = c.args.at in
    let small = c.requires.within in let distinct = c.spots_are_distinct.ensures in
    let near = nearest_above ends c.args.low k (Some to) c.requires.low c.requires.empty low_near in (
      end_there number ends list done ahead others at e j k small distinct s numbered to near,
      end_other number ends list done ahead others at e j k small distinct s numbered to near,
    )

pub returns-clause-placed : goal.returns-clause-placed
returns-clause-placed g c number j done e ahead others numbered s =
    let ends = c.args.self.now.ends in let k = c.args.k in let at = c.args.at in
    placed_in number ends c.args.self.now.list done ahead others at e j k c.requires.within c.spots_are_distinct.ensures s
    numbered c.move_above.new.self.ends c.move_above.new.self.list c.move_above.ensures.moved c.move_above.ensures.end
