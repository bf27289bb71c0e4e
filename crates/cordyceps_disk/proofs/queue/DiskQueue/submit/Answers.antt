use Rattle.std.proofs.Common.{◌≡◌, sym, ◌∙◌, subst}
use Rattle.cordyceps.specs.Elements.Nodes.{spots}
use Rattle.cordyceps.specs.Spots.BySpot.{IsTaken}
use Rattle.cordyceps.specs.Spots.Spots.{AreDistinct}
use Rattle.cordyceps.proofs.Spots.Reached.{taken_has}
use Rattle.cordyceps_disk.specs.Pairs.{seen, tickets_in}
use Rattle.cordyceps_disk.specs.Queue.{Queue, element}
use Rattle.cordyceps_disk.proofs.Pairing.{waiting_distinct}
use Rattle.cordyceps_disk.proofs.Seeing.{seen_distinct, seen_others, seen_submitted}
use Rattle.cordyceps_disk.proofs.queue.DiskQueue.submit.Goals as goal
use Rattle.cordyceps_disk.proofs.queue.DiskQueue.submit.Goals.{then-is_next, else-is_next}

pub returns-then-len-clause-distinct : goal.returns-then-len-clause-distinct
returns-then-len-clause-distinct g c =
    seen_distinct c.args.self.now c.self.inside.requests.nodes (tickets_in c.self.inside.tickets.lines)
    c.self.inside.head c.self.view_is c.self.invariant.0.paired.distinct

pub returns-in_err-at-clause-distinct : goal.returns-in_err-at-clause-distinct
returns-in_err-at-clause-distinct g c =
    waiting_distinct c.link.new.requests.nodes c.link.ensures.kept.paired.distinct

pub returns-clause-submitted : goal.returns-clause-submitted
returns-clause-submitted g c =
    let d = c.link.new.requests.nodes in
    let s = tickets_in c.link.new.tickets.lines in
    let is : c.if-is_next.self ≡ seen d s c.self.inside.head = elim c.if-is_next.branch as (λ _. c.if-is_next.self ≡ seen d s c.self.inside.head) [ then-is_next w ↦ w.self-is | else-is_next w ↦ w.self-is ] in
    is ∙ seen_submitted c.args.self.now c.self.inside.requests.nodes (tickets_in c.self.inside.tickets.lines)
    c.self.inside.head c.self.view_is d s c.in_ok-at.at c.args.request c.in_ok-at.ensures.put c.in_ok-at.ensures.due

pub returns-clause-others : goal.returns-clause-others
returns-clause-others g c =
    let d = c.link.new.requests.nodes in
    let s = tickets_in c.link.new.tickets.lines in
    let is : c.if-is_next.self ≡ seen d s c.self.inside.head = elim c.if-is_next.branch as (λ _. c.if-is_next.self ≡ seen d s c.self.inside.head) [ then-is_next w ↦ w.self-is | else-is_next w ↦ w.self-is ] in
    subst (λ (q : Queue _). IsTaken q.waiting c.in_ok-at.at (element c.args.request) c.args.self.now.waiting) (sym is)
    (seen_others c.args.self.now c.self.inside.requests.nodes (tickets_in c.self.inside.tickets.lines)
    c.self.inside.head c.self.view_is d s c.in_ok-at.at c.args.request c.in_ok-at.ensures.put
    c.self.invariant.0.paired.by_sector)

pub returns-clause-there : goal.returns-clause-there
returns-clause-there g c = taken_has c.if-is_next.self.waiting c.args.self.now.waiting c.in_ok-at.at (element c.args.request) (returns-clause-others g c)

pub returns-clause-distinct : goal.returns-clause-distinct
returns-clause-distinct g c =
    let d = c.link.new.requests.nodes in
    let s = tickets_in c.link.new.tickets.lines in
    let is : c.if-is_next.self ≡ seen d s c.self.inside.head = elim c.if-is_next.branch as (λ _. c.if-is_next.self ≡ seen d s c.self.inside.head) [ then-is_next w ↦ w.self-is | else-is_next w ↦ w.self-is ] in
    subst (λ (q : Queue _). AreDistinct (spots q.waiting)) (sym is) (waiting_distinct d c.link.ensures.kept.paired.distinct)
