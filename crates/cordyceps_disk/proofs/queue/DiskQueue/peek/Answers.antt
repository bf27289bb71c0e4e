use Rattle.std.proofs.Common.{◌≡◌, ◌≤◌, [], Option, MatchOption, refl, ap, sym, ◌∙◌, subst, arith}
use denote.RawPtr.{Ptr}
use Rattle.cordyceps.specs.Spots.DoubleLines.{flat}
use Rattle.cordyceps.proofs.Spots.Holding.{spot_is_at}
use Rattle.cordyceps_disk.specs.declared.request.Request.{Request}
use Rattle.cordyceps_disk.specs.Pairs.{seen, tickets_in}
use Rattle.cordyceps_disk.specs.Queue.{IsNext, Queue}
use Rattle.cordyceps_disk.proofs.Choosing.{next_ahead, next_front, next_urgent}
use Rattle.cordyceps_disk.proofs.Seeing.{next_there}
use Rattle.cordyceps_disk.proofs.Tickets.{found_first, stayed, still_kept}
use Rattle.cordyceps_disk.proofs.queue.DiskQueue.peek.Goals as goal
use Rattle.cordyceps_disk.proofs.queue.DiskQueue.peek.Goals.{in-Some, in-None}

pub get-first-requires : goal.get-first-requires
get-first-requires g c =
    let (e, lies, _) = c.in_ok-earliest.ensures.first in
    spot_is_at (flat c.front.new.self.lines) c.in_ok-earliest.earliest e lies

pub invariant_of-self-then-first-now : goal.invariant_of-self-then-first-now
invariant_of-self-then-first-now g c = (
  still_kept c.self.inside.tickets.lines c.front.new.self.lines c.self.invariant.0.held
      (λ a h. c.front.ensures.arrivals _ a refl h) c.self.inside.requests.nodes c.self.invariant.0.paired,
  c.self.invariant.1,
)

pub invariant_of-self-2 : goal.invariant_of-self-2
invariant_of-self-2 g c = (
  still_kept c.self.inside.tickets.lines c.front.new.self.lines c.self.invariant.0.held
      (λ a h. c.front.ensures.arrivals _ a refl h) c.self.inside.requests.nodes c.self.invariant.0.paired,
  c.self.invariant.1,
)

pub returns-then-first-now-clause-same : goal.returns-then-first-now-clause-same
returns-then-first-now-clause-same g c =
    ap (λ t. seen c.self.inside.requests.nodes t c.self.inside.head)
    (stayed c.self.inside.tickets.lines c.front.new.self.lines c.self.invariant.0.held
    (λ a h. c.front.ensures.arrivals _ a refl h))
    ∙ c.self.view_is

pub returns-clause-same : goal.returns-clause-same
returns-clause-same g c =
    ap (λ t. seen c.self.inside.requests.nodes t c.self.inside.head)
    (stayed c.self.inside.tickets.lines c.front.new.self.lines c.self.invariant.0.held
    (λ a h. c.front.ensures.arrivals _ a refl h))
    ∙ c.self.view_is

pub returns-then-first-now-clause-next : goal.returns-then-first-now-clause-next
returns-then-first-now-clause-next g c =
    let ls = c.self.inside.tickets.lines in
    let kept = c.self.invariant.0 in
    let u = c.in_ok-earliest.earliest in
    let w = c.get-first.result.now in
    let (e, lies, tells) = c.in_ok-earliest.ensures.first in
    let (first, read) = found_first ls c.front.new.self.lines kept.held (λ a h. c.front.ensures.arrivals _ a refl h)
    u w c.front.ensures.distinct c.get-first.ensures (e, lies, λ a h. tells _ a refl h) in
    subst (λ (q : Queue _). MatchOption w.request (q.waiting ≡ []) (λ p. (r : Request _) × IsNext c.args.now p r q))
    c.self.view_is
    (next_urgent c.self.inside.requests.nodes (tickets_in ls) c.self.inside.head c.args.now kept.paired
    u first w read c.if-first-now.true)

pub returns-clause-next : goal.returns-clause-next
returns-clause-next g c =
    let ls = c.self.inside.tickets.lines in
    let kept = c.self.invariant.0 in
    let nodes = c.self.inside.requests.nodes in
    let head = c.self.inside.head in
    let now = c.args.now in
    let u = c.in_ok-earliest.earliest in
    let w = c.get-first.result.now in
    let (e, lies, tells) = c.in_ok-earliest.ensures.first in
    let (first, read) = found_first ls c.front.new.self.lines kept.held (λ a h. c.front.ensures.arrivals _ a refl h)
    u w c.front.ensures.distinct c.get-first.ensures (e, lies, λ a h. tells _ a refl h) in
    let early : now ≤ w.deadline = omega (arith, c.if-first-now.false) in
    let Next : Option Ptr → Queue _ → Type 0 =
    λ o q. MatchOption o (q.waiting ≡ []) (λ p. (r : Request _) × IsNext now p r q) in
    subst (Next c.match-self.result) c.self.view_is
    (elim c.match-self.branch as (λ _. Next c.match-self.result (seen nodes (tickets_in ls) head)) [
      | in-Some s ↦
          subst (λ o. Next o (seen nodes (tickets_in ls) head)) (sym s.result-is)
          (next_ahead nodes (tickets_in ls) head now kept.paired u first w read early
          s.in-Some.at (sym c.self.invariant.1 ∙ s.in-Some.is))
      | in-None s ↦
          subst (λ o. Next o (seen nodes (tickets_in ls) head)) (sym s.result-is)
          (next_front nodes (tickets_in ls) head now kept.paired u first w read early
          s.front-in-None.result (sym c.self.invariant.1 ∙ s.in-None.is) s.front-in-None.ensures.first)
    ])

pub returns-then-first-now-clause-there : goal.returns-then-first-now-clause-there
returns-then-first-now-clause-there g c =
    next_there c.args.now c.args.self.now c.get-first.result.now.request (returns-then-first-now-clause-next g c)

pub returns-clause-there : goal.returns-clause-there
returns-clause-there g c =
    next_there c.args.now c.args.self.now c.match-self.result (returns-clause-next g c)
