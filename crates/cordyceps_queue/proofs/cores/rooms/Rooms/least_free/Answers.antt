use Rattle.std.proofs.Common.{◌≡◌, ◌+◌, suc, Some, ap, sym, ◌∙◌, arith}
use Rattle.std.specs.List.{position}
use Rattle.std.specs.Option.{option_map}
use Rattle.cordyceps_shared.specs.Rooms.{is_free_for}
use Rattle.cordyceps_queue.proofs.CoreTheory.FreeRooms.{first_after}
use Rattle.cordyceps_queue.proofs.cores.rooms.Rooms.least_free.Goals as goal

pub returns-in_err-place : goal.returns-in_err-place
returns-in_err-place g c =
    let i = c.self.inside in
    rw (← c.self.view_is) (c.from_residual.ensures ∙ ap (option_map suc) (sym (c.in_err-place.was) ∙ c.first_free.ensures.place ∙ ap (position (is_free_for c.args.party)) c.deref.ensures.value)
    ∙ sym (first_after c.args.party i.stub_next i.list.items))

pub returns : goal.returns
returns g c =
    let i = c.self.inside in
    let one : c.in_ok-place.place + 1 ≡ suc c.in_ok-place.place = omega arith in
    rw (← c.self.view_is) (ap (λ n. Some n) one ∙ ap (option_map suc) (sym (c.in_ok-place.was) ∙ c.first_free.ensures.place ∙ ap (position (is_free_for c.args.party)) c.deref.ensures.value)
    ∙ sym (first_after c.args.party i.stub_next i.list.items))
