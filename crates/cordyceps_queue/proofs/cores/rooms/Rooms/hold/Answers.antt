use Rattle.std.proofs.Common.{◌<◌, length, subst, sym}
use Rattle.cordyceps_queue.specs.Cores.Machine.{stub_room, with_element}
use Rattle.cordyceps_queue.proofs.CoreTheory.ListWrites.{set_after}
use Rattle.cordyceps_queue.proofs.cores.rooms.Rooms.hold.Goals as goal

pub returns : goal.returns
returns g c =
    let i = c.self.inside in
    rw (← c.self.view_is) (set_after (with_element c.args.element) (stub_room i.stub_next) i.list.items c.args.room c.index_mut.result.now c.requires.not_stub (subst (λ rooms. c.args.room < length rooms) (sym c.self.view_is) c.requires.within))
