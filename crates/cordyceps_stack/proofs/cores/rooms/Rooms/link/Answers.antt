use Rattle.cordyceps_shared.specs.Rooms.{with_link}
use Rattle.cordyceps_shared.proofs.ListWrites.{set_change_at}
use Rattle.cordyceps_stack.proofs.cores.rooms.Rooms.link.Goals as goal

pub returns : goal.returns
returns g c = rw (← c.self.view_is, c.index_mut.ensures.value) (set_change_at (with_link c.args.next) c.self.inside.list.items c.args.index c.index_mut.result.now (rw c.self.view_is c.requires))
