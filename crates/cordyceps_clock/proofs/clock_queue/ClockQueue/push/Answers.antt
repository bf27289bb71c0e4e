use Rattle.std.proofs.Common.{rules, [], ◌∷◌, ◌++◌, ◌≡◌, ◌≤◌, ◌<◌, ◌^◌, ap, sym, ◌∙◌, subst, arith}
use Rattle.std.specs.Ordering.{nat_cmp}
use Rattle.cordyceps_base.specs.Element.{Element}
use Rattle.cordyceps_single.specs.ByKey.{by_key}
use Rattle.cordyceps_stable.proofs.Holding.{taken_gone}
use Rattle.cordyceps_stable.proofs.Reached.{taken_has}
use Rattle.cordyceps_clock.specs.Buckets.{bucket_of, number_at}
use Rattle.cordyceps_clock.specs.Clock.{Clocked, Holds}
use Rattle.cordyceps_clock.proofs.Pops.{holds_pushed, timed_pushed}
use Rattle.cordyceps_clock.proofs.Reached.{put_keeps}
use Rattle.cordyceps_clock.proofs.clock_queue.ClockQueue.push.Goals as goal

pub invariant_of-self : goal.invariant_of-self
invariant_of-self g c of has =
    let e = g.T.Linked.element c.from_ptr.result in let clock = c.self.inside.clock in let k = c.bucket-k.result in
    let timed = c.self.invariant of has in
    let shown = subst (λ (s : Clocked g.row.T.Denot g.row.O.Denot). g.O.Times.computes_by s.time of) c.self.view_is has in
    let clock_is = ap (λ (s : Clocked g.row.T.Denot g.row.O.Denot). s.clock) c.self.view_is in
    let same = c.from_ptr.ensures ∙ c.into_ptr-node.ensures in
    let time : c.time-due.result ≡ of e.value = c.time-due.ensures of has ∙ ap of (c.get.ensures ∙ ap (λ (x : Element g.row.T.Denot). x.value) (sym c.from_ptr.ensures)) in
    let numbered : number_at of clock (c.put.result, e) ≡ k = ap (bucket_of clock) (sym time) ∙ sym c.bucket-k.ensures.is in
    let from : clock ≤ of e.value = omega (arith, c.requires.due of shown, clock_is, ap (λ (x : Element g.row.T.Denot). of x.value) same) in
    let fits : of e.value < 2 ^ 64 = omega (arith, time, c.time-due.type_inv) in
    let (kept, put) = c.put.ensures.put (number_at of clock) numbered timed.kept in
    timed_pushed of clock k c.put.new.self.ends c.self.inside.buckets.list c.put.new.self.list c.put.result e timed.times from fits put kept

pub returns-clause-arrivals : goal.returns-clause-arrivals
returns-clause-arrivals g c of a has h =
    let e = g.T.Linked.element c.from_ptr.result in let clock = c.self.inside.clock in let k = c.bucket-k.result in
    let nodes = ap (λ (s : Clocked g.row.T.Denot g.row.O.Denot). s.nodes) c.self.view_is in
    let own = subst (λ (s : Clocked g.row.T.Denot g.row.O.Denot). g.O.Times.computes_by s.time of) (sym c.self.view_is) has in
    let timed = c.self.invariant of own in
    let same = c.from_ptr.ensures ∙ c.into_ptr-node.ensures in
    let time : c.time-due.result ≡ of e.value = c.time-due.ensures of own ∙ ap of (c.get.ensures ∙ ap (λ (x : Element g.row.T.Denot). x.value) (sym c.from_ptr.ensures)) in
    let numbered : number_at of clock (c.put.result, e) ≡ k = ap (bucket_of clock) (sym time) ∙ sym c.bucket-k.ensures.is in
    let fits : of e.value < 2 ^ 64 = omega (arith, time, c.time-due.type_inv) in
    let (kept, put) = c.put.ensures.put (number_at of clock) numbered timed.kept in
    let small : clock < 2 ^ 64 = search rules in
    subst (λ (x : Element g.row.T.Denot). Holds (by_key nat_cmp of) c.put.new.self.list (a ++ (c.put.result, x) ∷ [])) same
    (holds_pushed of clock k c.self.inside.buckets.list c.put.new.self.list a c.put.result e small timed.times fits numbered put (subst (λ l. Holds (by_key nat_cmp of) l a) (sym nodes) h))

pub returns-clause-others : goal.returns-clause-others
returns-clause-others g c =
    let e = g.T.Linked.element c.from_ptr.result in let clock = c.self.inside.clock in let k = c.bucket-k.result in
    let nodes = ap (λ (s : Clocked g.row.T.Denot g.row.O.Denot). s.nodes) c.self.view_is in
    let callable = subst (λ (s : Clocked g.row.T.Denot g.row.O.Denot). g.O.Times.can_compute s.time) (sym c.self.view_is) c.requires.callable in
    let (of, own) = g.met.O.Times.computes c.self.inside.times callable in
    let timed = c.self.invariant of own in
    let same = c.from_ptr.ensures ∙ c.into_ptr-node.ensures in
    let time : c.time-due.result ≡ of e.value = c.time-due.ensures of own ∙ ap of (c.get.ensures ∙ ap (λ (x : Element g.row.T.Denot). x.value) (sym c.from_ptr.ensures)) in
    let numbered : number_at of clock (c.put.result, e) ≡ k = ap (bucket_of clock) (sym time) ∙ sym c.bucket-k.ensures.is in
    let (kept, (low, high, was, is, above)) = c.put.ensures.put (number_at of clock) numbered timed.kept in
    (low, high, is ∙ (λ i. low ++ (c.put.result, same i) ∷ high), sym nodes ∙ was)

pub returns-clause-there : goal.returns-clause-there
returns-clause-there g c =
    taken_has c.put.new.self.list c.args.self.now.nodes c.put.result (g.T.Linked.element c.args.handle)
    (returns-clause-others g c)

pub returns-clause-kept : goal.returns-clause-kept
returns-clause-kept g c p has =
    put_keeps c.args.self.now.nodes c.put.new.self.list c.put.result p (g.T.Linked.element c.args.handle)
    (returns-clause-others g c) has

pub returns-clause-apart : goal.returns-clause-apart
returns-clause-apart g c =
    taken_gone c.put.new.self.list c.args.self.now.nodes c.put.result (g.T.Linked.element c.args.handle)
    c.put.ensures.distinct (returns-clause-others g c)
