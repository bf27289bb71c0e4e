use Rattle.std.proofs.Common.{◌≡◌, None, ap, sym, ◌∙◌}
use Rattle.std.specs.Prelude.{slice_get}
use Rattle.cordyceps_shared.specs.Rooms.{next_in}
use Rattle.cordyceps_queue.specs.Cores.Machine.{Machine}
use Rattle.cordyceps_queue.proofs.cores.machine.Machine.read_again.Goals as goal

pub returns-in-None : goal.returns-in-None
returns-in-None g c =
    let none : next_in (slice_get c.args.self.now.rooms c.args.tail) ≡ None = ap (λ (m : Machine g.row.E.Denot). next_in (slice_get m.rooms c.args.tail)) (sym c.self.view_is) ∙ (sym c.next.ensures ∙ c.in-None.is) in
    rw none c.set_stage.ensures
