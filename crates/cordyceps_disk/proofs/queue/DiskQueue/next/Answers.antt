use Rattle.std.proofs.Common.{refl, ◌∙◌}
use Rattle.cordyceps_disk.specs.Pairs.{tickets_in}
use Rattle.cordyceps_disk.proofs.Pairing.{waiting_distinct}
use Rattle.cordyceps_disk.proofs.Seeing.{seen_left, seen_next, seen_spot}
use Rattle.cordyceps_disk.proofs.queue.DiskQueue.next.Goals as goal

pub first_above-self-inside-requires-clause-there : goal.first_above-self-inside-requires-clause-there
first_above-self-inside-requires-clause-there g c =
    seen_spot c.args.self.now c.self.inside.requests.nodes (tickets_in c.self.inside.tickets.lines) c.self.inside.head
    (c.self.view_is ∙ c.in_ok-at.ensures.same) c.in_ok-at.at c.in_ok-at.ensures.there

pub unlink-request-requires-clause-there : goal.unlink-request-requires-clause-there
unlink-request-requires-clause-there g c =
    seen_spot c.args.self.now c.self.inside.requests.nodes (tickets_in c.self.inside.tickets.lines) c.self.inside.head
    (c.self.view_is ∙ c.in_ok-at.ensures.same) c.in_ok-at.at c.in_ok-at.ensures.there

pub returns-clause-served : goal.returns-clause-served
returns-clause-served g c =
    let (r, next) = c.in_ok-at.ensures.next in
    let at = c.in_ok-at.at in
    let d = c.unlink-request.new.requests.nodes in
    let s = tickets_in c.unlink-request.new.tickets.lines in
    let k = c.unlink-request.result.sector in
    let q = c.args.self.now in
    let nodes = c.self.inside.requests.nodes in
    let t = tickets_in c.self.inside.tickets.lines in
    let view = c.self.view_is ∙ c.in_ok-at.ensures.same in
    let r' = c.unlink-request.result in
    let taken = c.unlink-request.ensures.taken in
    let in_queue = seen_next q nodes t c.self.inside.head view d s k at r' taken c.args.now r
    c.self.invariant.0.paired.distinct next in
    let left = seen_left q nodes t c.self.inside.head view d s k at r' taken c.unlink-request.ensures.due in
    (at, in_queue, left, refl)

pub returns-clause-distinct : goal.returns-clause-distinct
returns-clause-distinct g c =
    waiting_distinct c.unlink-request.new.requests.nodes c.unlink-request.ensures.kept.paired.distinct
