use Rattle.std.proofs.Common.{◌∷◌, ap, sym, ◌∙◌, subst, arith}
use Rattle.std.specs.List.Sorted.{IsPermutation}
use Rattle.std.proofs.lemmas.List.Sorted.{IsPermutation-refl}
use Rattle.std.specs.Ordering.{nat_cmp}
use Rattle.cordyceps_single.specs.ByKey.{by_key}
use Rattle.cordyceps_clock.specs.Buckets.{AreLater}
use Rattle.cordyceps_clock.specs.Clock.{Clocked, Holds}
use Rattle.cordyceps_clock.proofs.Advances.{none_timed}
use Rattle.cordyceps_clock.proofs.Pops.{due_by, later_than, none_by, none_later, some_stay, timed_taken, popped_all, popped_due, popped_holds}
use Rattle.cordyceps_clock.proofs.Reached.{permuted_keeps, popped_keeps}
use Rattle.cordyceps_clock.proofs.clock_queue.ClockQueue.pop_due.Goals as goal

pub returns-then-time-self-clause-due : goal.returns-then-time-self-clause-due
returns-then-time-self-clause-due g c =
    let clock_is = ap (λ (s : Clocked g.row.T.Denot g.row.O.Denot). s.clock) c.self.view_is in let nodes = ap (λ (s : Clocked g.row.T.Denot g.row.O.Denot). s.nodes) c.self.view_is in (
      omega (arith, clock_is, c.if-time-self.true),
      IsPermutation-refl _,
      λ of has.
          let own = subst (λ (s : Clocked g.row.T.Denot g.row.O.Denot). g.O.Times.computes_by s.time of) (sym c.self.view_is) has in
          (subst (AreLater of c.args.time) nodes (later_than of c.self.inside.clock c.args.time c.self.inside.buckets.list c.if-time-self.true (c.self.invariant of own).times), λ a h. h),
    )

pub invariant_of-self : goal.invariant_of-self
invariant_of-self g c of has = none_timed of c.self.inside.clock c.args.time c.self.inside.buckets.ends c.self.inside.buckets.list c.in_default.ensures.first (c.self.invariant of has)

pub returns-in_default-clause-due : goal.returns-in_default-clause-due
returns-in_default-clause-due g c =
    let clock_is = ap (λ (s : Clocked g.row.T.Denot g.row.O.Denot). s.clock) c.self.view_is in let nodes = ap (λ (s : Clocked g.row.T.Denot g.row.O.Denot). s.nodes) c.self.view_is in (
      omega (arith, clock_is, c.if-time-self.false),
      subst (λ l. IsPermutation l c.self.inside.buckets.list) nodes (IsPermutation-refl c.self.inside.buckets.list),
      λ of has. (none_later of c.args.time c.self.inside.buckets.list c.in_default.ensures.first, λ a h. subst (λ l. Holds (by_key nat_cmp of) l a) (sym nodes) h),
    )

pub returns-in_err-next-clause-due : goal.returns-in_err-next-clause-due
returns-in_err-next-clause-due g c =
    absurd (some_stay c.self.inside.buckets.list c.advance-self-inside.new.self.list c.in-Some.at c.in-Some.ensures.first c.advance-self-inside.ensures.kept c.in_err-next.ensures.first)

pub returns-then-due-time-clause-due : goal.returns-then-due-time-clause-due
returns-then-due-time-clause-due g c =
    let old = c.self.inside.buckets.list in let list = c.advance-self-inside.new.self.list in let clock_is = ap (λ (s : Clocked g.row.T.Denot g.row.O.Denot). s.clock) c.self.view_is in
    let nodes = ap (λ (s : Clocked g.row.T.Denot g.row.O.Denot). s.nodes) c.self.view_is in
    let callable = subst (λ (s : Clocked g.row.T.Denot g.row.O.Denot). g.O.Times.can_compute s.time) (sym c.self.view_is) c.requires.callable in
    let (of, own) = g.met.O.Times.computes c.self.inside.times callable in
    let reached = (let (v, holds, tells) = c.time_at-due.ensures in none_by of c.advance-self-inside.result c.args.time c.advance-self-inside.new.self.ends list c.in_ok-next.next c.advance-self-inside.ensures.distinct c.in_ok-next.ensures.first (c.advance-self-inside.ensures.due of own) v c.time_at-due.result holds (tells of own) c.if-due-time.true c.advance-self-inside.ensures.within.1) in (
      omega (arith, clock_is, c.if-time-self.false, reached.0),
      subst (λ l. IsPermutation l list) nodes c.advance-self-inside.ensures.kept,
      λ f has.
          let asked = subst (λ (s : Clocked g.row.T.Denot g.row.O.Denot). g.O.Times.computes_by s.time f) (sym c.self.view_is) has in
          let none = (let (v, holds, tells) = c.time_at-due.ensures in none_by f c.advance-self-inside.result c.args.time c.advance-self-inside.new.self.ends list c.in_ok-next.next c.advance-self-inside.ensures.distinct c.in_ok-next.ensures.first (c.advance-self-inside.ensures.due f asked) v c.time_at-due.result holds (tells f asked) c.if-due-time.true c.advance-self-inside.ensures.within.1) in
          (none.1, λ a h z. c.advance-self-inside.ensures.stable f asked z ∙ subst (λ l. Holds (by_key nat_cmp f) l a) (sym nodes) h z),
    )

pub invariant_of-self-2 : goal.invariant_of-self-2
invariant_of-self-2 g c of has =
    let timed = c.advance-self-inside.ensures.timed of has in
    timed_taken of c.advance-self-inside.result c.advance-self-inside.new.self.ends c.take_out.new.self.ends c.advance-self-inside.new.self.list c.take_out.new.self.list c.in_ok-next.next _ timed c.take_out.ensures.taken (c.take_out.ensures.kept of has timed.kept)

pub returns-clause-due : goal.returns-clause-due
returns-clause-due g c =
    let e = g.T.Linked.element c.take_out.result in let p = c.in_ok-next.next in let clock = c.advance-self-inside.result in let until = c.args.time in
    let old = c.self.inside.buckets.list in let list = c.advance-self-inside.new.self.list in let ends = c.advance-self-inside.new.self.ends in let new = c.take_out.new.self.list in
    let distinct = c.advance-self-inside.ensures.distinct in let first = c.in_ok-next.ensures.first in let taken = c.take_out.ensures.taken in
    let nodes = ap (λ (s : Clocked g.row.T.Denot g.row.O.Denot). s.nodes) c.self.view_is in let (v, holds, tells) = c.time_at-due.ensures in (
      p,
      λ of has.
          let own = subst (λ (s : Clocked g.row.T.Denot g.row.O.Denot). g.O.Times.computes_by s.time of) (sym c.self.view_is) has in
          let timed = c.advance-self-inside.ensures.timed of own in let stable = c.advance-self-inside.ensures.stable of own in
          let due = due_by of clock until ends list p distinct first (c.advance-self-inside.ensures.due of own) v c.time_at-due.result holds (tells of own) c.if-due-time.false in
          let at = popped_due of clock ends old list new p e distinct first taken timed due stable in (
            sym at,
            omega (arith, at, c.advance-self-inside.ensures.within.1),
            λ a h. popped_holds of clock ends old list new p e distinct first taken timed due stable a (subst (λ l. Holds (by_key nat_cmp of) l a) (sym nodes) h),
          ),
      subst (IsPermutation ((p, e) ∷ new)) nodes (popped_all (λ _. clock) clock ends old list new p e distinct first taken c.advance-self-inside.ensures.kept),
    )

pub returns-in_err-next-clause-kept : goal.returns-in_err-next-clause-kept
returns-in_err-next-clause-kept g c =
    absurd (some_stay c.self.inside.buckets.list c.advance-self-inside.new.self.list c.in-Some.at c.in-Some.ensures.first c.advance-self-inside.ensures.kept c.in_err-next.ensures.first)

pub returns-then-due-time-clause-kept : goal.returns-then-due-time-clause-kept
returns-then-due-time-clause-kept g c p has =
    let (_, moved, _) = returns-then-due-time-clause-due g c in
    permuted_keeps c.args.self.now.nodes c.advance-self-inside.new.self.list p moved has

pub returns-clause-kept : goal.returns-clause-kept
returns-clause-kept g c p has =
    let (spot, _, all) = returns-clause-due g c in
    popped_keeps c.args.self.now.nodes c.take_out.new.self.list spot p (g.T.Linked.element c.take_out.result) all has
