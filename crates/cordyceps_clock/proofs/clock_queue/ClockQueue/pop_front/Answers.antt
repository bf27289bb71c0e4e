use Rattle.std.proofs.Common.{◌-◌, ◌^◌, ◌∷◌, ap, sym, subst, arith}
use Rattle.std.specs.List.Sorted.{IsPermutation}
use Rattle.std.specs.Ordering.{nat_cmp}
use Rattle.cordyceps_single.specs.ByKey.{by_key}
use Rattle.cordyceps_clock.specs.Clock.{Clocked, Holds}
use Rattle.cordyceps_clock.proofs.Pops.{due_at_last, some_stay, timed_taken, popped_all, popped_due, popped_holds}
use Rattle.cordyceps_clock.proofs.Reached.{popped_keeps}
use Rattle.cordyceps_clock.proofs.clock_queue.ClockQueue.pop_front.Goals as goal

pub invariant_of-self-2 : goal.invariant_of-self-2
invariant_of-self-2 g c of has =
    let timed = c.advance-self-inside.ensures.timed of has in
    timed_taken of c.advance-self-inside.result c.advance-self-inside.new.self.ends c.take_out.new.self.ends c.advance-self-inside.new.self.list c.take_out.new.self.list c.in_ok-first.first _ timed c.take_out.ensures.taken (c.take_out.ensures.kept of has timed.kept)

pub returns-in_err-first-clause-taken : goal.returns-in_err-first-clause-taken
returns-in_err-first-clause-taken g c =
    absurd (some_stay c.self.inside.buckets.list c.advance-self-inside.new.self.list c.in_ok-at.at c.in_ok-at.ensures.first c.advance-self-inside.ensures.kept c.in_err-first.ensures.first)

pub returns-clause-taken : goal.returns-clause-taken
returns-clause-taken g c =
    let e = g.T.Linked.element c.take_out.result in let p = c.in_ok-first.first in let clock = c.advance-self-inside.result in
    let old = c.self.inside.buckets.list in let list = c.advance-self-inside.new.self.list in let new = c.take_out.new.self.list in
    let nodes = ap (λ (s : Clocked g.row.T.Denot g.row.O.Denot). s.nodes) c.self.view_is in (
      p,
      λ of has.
          let own = subst (λ (s : Clocked g.row.T.Denot g.row.O.Denot). g.O.Times.computes_by s.time of) (sym c.self.view_is) has in
          let timed = c.advance-self-inside.ensures.timed of own in let due = due_at_last of clock (2 ^ 64 - 1) c.advance-self-inside.new.self.ends list p c.advance-self-inside.ensures.distinct c.in_ok-first.ensures.first (c.advance-self-inside.ensures.due of own) timed (omega arith) in let stable = c.advance-self-inside.ensures.stable of own in (
            sym (popped_due of clock c.advance-self-inside.new.self.ends old list new p e c.advance-self-inside.ensures.distinct c.in_ok-first.ensures.first c.take_out.ensures.taken timed due stable),
            λ a h. popped_holds of clock c.advance-self-inside.new.self.ends old list new p e c.advance-self-inside.ensures.distinct c.in_ok-first.ensures.first c.take_out.ensures.taken timed due stable a (subst (λ l. Holds (by_key nat_cmp of) l a) (sym nodes) h),
          ),
      subst (IsPermutation ((p, e) ∷ new)) nodes (popped_all (λ _. clock) clock c.advance-self-inside.new.self.ends old list new p e c.advance-self-inside.ensures.distinct c.in_ok-first.ensures.first c.take_out.ensures.taken c.advance-self-inside.ensures.kept),
    )

pub returns-in_err-first-clause-kept : goal.returns-in_err-first-clause-kept
returns-in_err-first-clause-kept g c =
    absurd (some_stay c.self.inside.buckets.list c.advance-self-inside.new.self.list c.in_ok-at.at c.in_ok-at.ensures.first c.advance-self-inside.ensures.kept c.in_err-first.ensures.first)

pub returns-clause-kept : goal.returns-clause-kept
returns-clause-kept g c p has =
    let (spot, _, all) = returns-clause-taken g c in
    popped_keeps c.args.self.now.nodes c.take_out.new.self.list spot p (g.T.Linked.element c.take_out.result) all has
