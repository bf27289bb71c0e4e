use Rattle.cordyceps_disk.specs.Pairs.{tickets_in}
use Rattle.cordyceps_disk.proofs.Pairing.{waiting_distinct}
use Rattle.cordyceps_disk.proofs.Seeing.{seen_left, seen_spot}
use Rattle.cordyceps_disk.proofs.queue.DiskQueue.cancel.Goals as goal

pub left_ahead-self-inside-requires-clause-there : goal.left_ahead-self-inside-requires-clause-there
left_ahead-self-inside-requires-clause-there g c =
    seen_spot c.args.self.now c.self.inside.requests.nodes (tickets_in c.self.inside.tickets.lines) c.self.inside.head
    c.self.view_is c.args.at c.requires

pub unlink-requires-clause-there : goal.unlink-requires-clause-there
unlink-requires-clause-there g c =
    seen_spot c.args.self.now c.self.inside.requests.nodes (tickets_in c.self.inside.tickets.lines) c.self.inside.head
    c.self.view_is c.args.at c.requires

pub invariant_of-self : goal.invariant_of-self
invariant_of-self g c =
    let (e, is, taken) = c.unlink.ensures.taken in
    (c.unlink.ensures.kept, c.left_ahead-self-inside.ensures e c.unlink.new.requests.nodes taken)

pub returns-clause-left : goal.returns-clause-left
returns-clause-left g c =
    seen_left c.args.self.now c.self.inside.requests.nodes (tickets_in c.self.inside.tickets.lines) c.self.inside.head
    c.self.view_is c.unlink.new.requests.nodes (tickets_in c.unlink.new.tickets.lines) c.self.inside.head
    c.args.at c.unlink.result c.unlink.ensures.taken c.unlink.ensures.due

pub returns-clause-distinct : goal.returns-clause-distinct
returns-clause-distinct g c = waiting_distinct c.unlink.new.requests.nodes c.unlink.ensures.kept.paired.distinct
