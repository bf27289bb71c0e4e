use Rattle.std.proofs.Common.{◌<◌, length, subst, sym, arith}
use Rattle.cordyceps_shared.specs.Rooms.{with_link}
use Rattle.cordyceps_queue.specs.Cores.Machine.{stub_room}
use Rattle.cordyceps_queue.proofs.CoreTheory.ListWrites.{set_after}
use Rattle.cordyceps_queue.proofs.cores.rooms.Rooms.link.Goals as goal

pub returns-else-room-eq0 : goal.returns-else-room-eq0
returns-else-room-eq0 g c =
    let i = c.self.inside in
    rw (← c.self.view_is, c.index_mut.ensures.value) (set_after (with_link c.args.next) (stub_room i.stub_next) i.list.items c.args.room c.index_mut.result.now (grind (arith, c.if-room-eq0.false)) (subst (λ rooms. c.args.room < length rooms) (sym c.self.view_is) c.requires))
