use Rattle.cordyceps_disk.specs.Pairs.{tickets_in}
use Rattle.cordyceps_disk.proofs.Seeing.{seen_spot}
use Rattle.cordyceps_disk.proofs.queue.DiskQueue.get.Goals as goal

pub get-requires : goal.get-requires
get-requires g c =
    seen_spot c.args.self.now c.self.inside.requests.nodes (tickets_in c.self.inside.tickets.lines) c.self.inside.head
    c.self.view_is c.args.at c.requires
