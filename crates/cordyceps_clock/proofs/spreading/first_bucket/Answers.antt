use Rattle.std.proofs.Common.{◌≡◌, ◌∷◌, ◌<◌, ℕ, subst, sym, arith}
use Rattle.cordyceps_base.specs.Element.{Element}
use Rattle.cordyceps_base.specs.Nodes.{Nodes}
use Rattle.cordyceps_stable.specs.Walk.{nodes_from}
use Rattle.cordyceps_stable.proofs.Walk.{next_nearer}
use Rattle.cordyceps_clock.specs.Buckets.{bucket_of}
use Rattle.cordyceps_clock.proofs.Firsts.{Seen, Counted, IsLeastOf, seen_has, seen_below, seen_first, counted_more, least_begun, first_none, first_some, none_is}
use Rattle.cordyceps_clock.proofs.spreading.first_bucket.Goals as goal

pub loop-next-init : goal.loop-next-init
loop-next-init g c =
    let (o, front, was) = c.requires.first in let (v, holds, tells) = c.time_at.ensures in (
      seen_first c.args.list.now c.args.at c.next-next.result c.spots_are_distinct.ensures c.requires.first c.next-next.ensures.step,
      λ of e after has is at. least_begun of c.args.clock c.args.k c.args.list.now after front c.args.at e o v c.time_at.result c.spots_are_distinct.ensures was is holds (tells of has) at,
    )

pub time_at-due-requires-clause-there : goal.time_at-due-requires-clause-there
time_at-due-requires-clause-there g c = seen_has c.args.list.now c.loop-next.first.len c.in-Some.at (subst (Seen c.args.list.now c.loop-next.first.len) c.in-Some.is c.loop-next.invariant.0)

pub with_next-first-requires : goal.with_next-first-requires
with_next-first-requires g c =
    let low = seen_below c.args.list.now c.loop-next.first.len c.in-Some.at (subst (Seen c.args.list.now c.loop-next.first.len) c.in-Some.is c.loop-next.invariant.0) in
    omega (arith, low, c.len-len.ensures, c.len-len.type_inv)

pub next-next-requires-in-Some : goal.next-next-requires-in-Some
next-next-requires-in-Some g c = seen_has c.args.list.now c.loop-next.first.len c.in-Some.at (subst (Seen c.args.list.now c.loop-next.first.len) c.in-Some.is c.loop-next.invariant.0)

pub loop-next-smaller : goal.loop-next-smaller
loop-next-smaller g c =
    let has = seen_has c.args.list.now c.loop-next.first.len c.in-Some.at (subst (Seen c.args.list.now c.loop-next.first.len) c.in-Some.is c.loop-next.invariant.0) in
    subst (λ o. nodes_from c.args.list.now c.next-next-in-Some.result < nodes_from c.args.list.now o) (sym c.in-Some.is) (next_nearer c.args.list.now c.in-Some.at c.next-next-in-Some.result c.spots_are_distinct.ensures has c.next-next-in-Some.ensures.step)

pub loop-next-preserved : goal.loop-next-preserved
loop-next-preserved g c =
    let X = g.row.T.Denot in let list = c.args.list.now in let clock = c.args.clock in let k = c.args.k in let least = c.loop-next.first.least in
    let K : (X → ℕ) → Type 0 = λ of. g.O.Times.computes_by c.args.times.now of in
    let (v, holds, tells) = c.time_at-due.ensures in
    counted_more K clock k list c.args.at least c.loop-next.first.at c.loop-next.first.len c.with_next-first.result.len c.in-Some.at c.next-next-in-Some.result v c.time_at-due.result c.with_next-first.result.least c.with_next-first.result.at c.bucket.result c.spots_are_distinct.ensures
    holds tells c.with_next-first.ensures.len c.with_next-first.ensures.least c.bucket.ensures.is c.if-bucket-k.false c.next-next-in-Some.ensures.step (subst (λ o. Counted list c.loop-next.first.len o (λ seen. (of : X → ℕ) (e : Element X) (after : Nodes X) → K of → list ≡ (c.args.at, e) ∷ after → bucket_of clock (of e.value) ≡ k → IsLeastOf of clock k least c.loop-next.first.at seen)) c.in-Some.is c.loop-next.invariant)

pub returns-then-bucket-k : goal.returns-then-bucket-k
returns-then-bucket-k g c of e after has ascends is at =
    let X = g.row.T.Denot in let list = c.args.list.now in let clock = c.args.clock in let k = c.args.k in let least = c.loop-next.first.least in
    let (v, holds, tells) = c.time_at-due.ensures in
    let t = subst (λ o. Counted list c.loop-next.first.len o (λ seen. (of : X → ℕ) (e : Element X) (after : Nodes X) → g.O.Times.computes_by c.args.times.now of → list ≡ (c.args.at, e) ∷ after → bucket_of clock (of e.value) ≡ k → IsLeastOf of clock k least c.loop-next.first.at seen)) c.in-Some.is c.loop-next.invariant in
    first_some of clock k list least c.loop-next.first.at c.loop-next.first.len c.in-Some.at v c.time_at-due.result c.bucket.result t.0 c.spots_are_distinct.ensures ascends holds (tells of has) c.bucket.ensures.is c.if-bucket-k.true (t.1 of e after has is at)

pub returns-in_default : goal.returns-in_default
returns-in_default g c of e after has ascends is at =
    let X = g.row.T.Denot in let list = c.args.list.now in let clock = c.args.clock in let k = c.args.k in let least = c.loop-next.first.least in
    let t = subst (λ o. Counted list c.loop-next.first.len o (λ seen. (of : X → ℕ) (e : Element X) (after : Nodes X) → g.O.Times.computes_by c.args.times.now of → list ≡ (c.args.at, e) ∷ after → bucket_of clock (of e.value) ≡ k → IsLeastOf of clock k least c.loop-next.first.at seen)) (none_is c.loop-next.next c.in_default.not-Some) c.loop-next.invariant in
    first_none of clock k list least c.loop-next.first.at c.loop-next.first.len t.0 (t.1 of e after has is at)
