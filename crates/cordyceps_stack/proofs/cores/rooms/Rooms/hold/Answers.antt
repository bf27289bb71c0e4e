use Rattle.cordyceps_stack.specs.Cores.Machine.{with_element}
use Rattle.cordyceps_shared.proofs.ListWrites.{set_change_at}
use Rattle.cordyceps_stack.proofs.cores.rooms.Rooms.hold.Goals as goal

pub returns : goal.returns
returns g c = rw (← c.self.view_is, c.index_mut-room.ensures.value) (set_change_at (with_element c.args.element) c.self.inside.list.items c.args.index c.index_mut-room.result.now (rw c.self.view_is c.requires))
