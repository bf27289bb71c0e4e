use Rattle.std.proofs.Common.{ap, sym, ◌∙◌, Some}
use Rattle.std.proofs.lemmas.Option.{slice_get-get_or}
use Rattle.cordyceps_shared.specs.Rooms.{as_free_room, element_in}
use Rattle.cordyceps_shared.proofs.ListWrites.{set_change_at}
use Rattle.cordyceps_stack.proofs.cores.rooms.Rooms.free.Goals as goal

pub returns-clause-rooms : goal.returns-clause-rooms
returns-clause-rooms g c = rw (← c.self.view_is, c.take.ensures.after, c.index_mut-room.ensures.value) (set_change_at (as_free_room c.args.party) c.self.inside.list.items c.args.index c.index_mut-room.result.now (rw c.self.view_is c.requires.within))

pub returns-clause-element : goal.returns-clause-element
returns-clause-element g c =
    rw (← c.self.view_is) (ap element_in (slice_get-get_or c.self.inside.list.items c.args.index c.index_mut-room.result.now (rw c.self.view_is c.requires.within) ∙ ap Some (sym c.index_mut-room.ensures.value)) ∙ (sym c.take.ensures.value ∙ c.unwrap.ensures))
