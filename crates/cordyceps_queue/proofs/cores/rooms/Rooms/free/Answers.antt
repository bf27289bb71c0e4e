use Rattle.std.proofs.Common.{Some, ap, sym, ◌∙◌}
use Rattle.cordyceps_shared.specs.Rooms.{as_free_room, element_in}
use Rattle.cordyceps_queue.specs.Cores.Machine.{stub_room}
use Rattle.cordyceps_queue.proofs.CoreTheory.ListWrites.{set_after, get_after, full_within}
use Rattle.cordyceps_queue.proofs.cores.rooms.Rooms.free.Goals as goal

pub returns-clause-rooms : goal.returns-clause-rooms
returns-clause-rooms g c =
    let i = c.self.inside in
    let w = full_within i.stub_next i.list.items c.args.room (rw c.self.view_is c.requires) in
    rw (← c.self.view_is, c.take.ensures.after, c.index_mut-freed.ensures.value) (set_after (as_free_room c.args.party) (stub_room i.stub_next) i.list.items c.args.room c.index_mut-freed.result.now w.0 w.1)

pub returns-clause-element : goal.returns-clause-element
returns-clause-element g c =
    let i = c.self.inside in
    let w = full_within i.stub_next i.list.items c.args.room (rw c.self.view_is c.requires) in
    rw (← c.self.view_is) (ap element_in (get_after (stub_room i.stub_next) i.list.items c.args.room c.index_mut-freed.result.now w.0 w.1)
    ∙ (ap (λ room. element_in (Some room)) (sym c.index_mut-freed.ensures.value) ∙ (sym c.take.ensures.value ∙ c.unwrap.ensures)))
