use Rattle.std.proofs.Common.{◌≡◌, not, false, ap, subst, sym, ◌∙◌}
use Rattle.std.specs.Prelude.{is_none, slice_get}
use Rattle.cordyceps_queue.specs.Cores.CoreMeets.{CoreMeets}
use Rattle.cordyceps_queue.proofs.CoreTheory.CoreGrows.{room_tried}
use Rattle.cordyceps_queue.proofs.cores.calls.QueueCore.add_room.Goals as goal

pub invariant_of-self : goal.invariant_of-self
invariant_of-self g c =
    let m = c.self.inside.machine in
    let there : is_none (slice_get m.parties c.args.party) ≡ false = ap is_none (sym c.stage.ensures) ∙ ap not (c.is_none.ensures ∙ ap not c.if-is_none.false) in
    (c.self.invariant.0, room_tried c.self.invariant.0 m c.add_room.new.self c.args.party c.add_room.result there c.add_room.ensures.ok c.add_room.ensures.err c.self.invariant.1)

pub returns-clause-history : goal.returns-clause-history
returns-clause-history g c = λ h was.
    let m = c.self.inside.machine in
    let there : is_none (slice_get m.parties c.args.party) ≡ false = ap is_none (sym c.stage.ensures) ∙ ap not (c.is_none.ensures ∙ ap not c.if-is_none.false) in
    room_tried h m c.add_room.new.self c.args.party c.add_room.result there c.add_room.ensures.ok c.add_room.ensures.err (subst (CoreMeets h) (sym c.self.view_is) was)
