use Rattle.std.proofs.Common.{◌++◌, ◌<◌, ◌∙◌, ap, refl, sym, arith}
use Rattle.cordyceps_base.specs.Element.{Element}
use Rattle.cordyceps_stable.proofs.Holding.{spot_is_at}
use Rattle.cordyceps_clock.specs.Buckets.{number_at}
use Rattle.cordyceps_clock.proofs.Ends.{held_is, value_is}
use Rattle.cordyceps_clock.proofs.Renewals.{end_there, end_other, moved_taken, renewed}
use Rattle.cordyceps_clock.proofs.buckets.Buckets.renew.Goals as goal

pub time_at-due-requires-clause-there : goal.time_at-due-requires-clause-there
time_at-due-requires-clause-there g c =
    let (e, w, gave, o) = c.change_at-answer.ensures in
    spot_is_at c.change_at-answer.new.list c.args.at (record { id = e.id; value = w }) (o.before, o.after, o.is)

pub move_in-requires-clause-there : goal.move_in-requires-clause-there
move_in-requires-clause-there g c =
    let (e, w, gave, o) = c.change_at-answer.ensures in
    spot_is_at c.change_at-answer.new.list c.args.at (record { id = e.id; value = w }) (o.before, o.after, o.is)

pub move_in-requires-clause-others : goal.move_in-requires-clause-others
move_in-requires-clause-others g c to near =
    let (of, has) = g.met.O.Times.computes c.args.times.now c.requires.time in
    let (e, w, gave, o) = c.change_at-answer.ensures in
    let n : Element g.row.T.Denot = record { id = e.id; value = w } in
    let rest = o.before ++ o.after in let list = c.change_at-answer.new.list in let ends = c.leave_out.new.self.ends in
    let N = number_at of c.args.clock in let k = c.bucket.result in let at = c.args.at in
    let small : k < 65 = omega (arith, c.bucket.ensures.within) in let distinct = c.spots_are_distinct.ensures in
    let kept = c.leave_out.ensures.kept of e rest has (c.requires.kept of has) (o.before, o.after, sym c.leave_out.ensures.list ∙ o.was, refl) in (
      end_there list rest at n distinct (o.before, o.after, o.is, refl) N ends k small kept to near,
      end_other list rest at n distinct (o.before, o.after, o.is, refl) N ends k small kept to near,
    )

pub returns-clause-changed : goal.returns-clause-changed
returns-clause-changed g c =
    let (e, w, gave, o) = c.change_at-answer.ensures in
    let n : Element g.row.T.Denot = record { id = e.id; value = w } in
    let rest = o.before ++ o.after in let list = c.change_at-answer.new.list in let ends = c.leave_out.new.self.ends in
    let clock = c.args.clock in let k = c.bucket.result in let at = c.args.at in
    let small : k < 65 = omega (arith, c.bucket.ensures.within) in let distinct = c.spots_are_distinct.ensures in
    let moved = c.move_in.ensures.moved in let (v, holds, tells) = c.time_at-due.ensures in (
      e,
      w,
      rest,
      gave,
      (o.before, o.after, sym c.leave_out.ensures.list ∙ o.was, refl),
      moved_taken list rest at n distinct (o.before, o.after, o.is, refl) ends k c.move_in.new.self.list moved,
      λ of has.
          let kept = c.leave_out.ensures.kept of e rest has (c.requires.kept of has) (o.before, o.after, sym c.leave_out.ensures.list ∙ o.was, refl) in
          let due = c.time_at-due.result in let told = tells of has in
          let numbered =
          held_is of clock k list o.before o.after at n v due distinct o.is holds told c.bucket.ensures.is in
          let value = value_is of clock k list o.before o.after at n v distinct o.is holds in
          renewed list rest at n distinct (o.before, o.after, o.is, refl) of clock k ends c.move_in.new.self.ends
          c.move_in.new.self.list small
          (omega (arith, c.time_at-due.type_inv, told, ap of value)) numbered kept moved c.move_in.ensures.end,
    )
