use Rattle.std.proofs.Common.{◌≡◌, ap, sym, ◌∙◌}
use Rattle.std.specs.Prelude.{slice_get, Some}
use Rattle.cordyceps_stack.specs.declared.cores.stage.Stage.TheVariants.{Set}
use Rattle.cordyceps_stack.specs.Cores.Machine.{Machine}
use Rattle.cordyceps_stack.proofs.CoreTheory.CoreKeeps.{sound_push, sound_fail, set_room, element_at}
use Rattle.cordyceps_stack.proofs.cores.calls.TransferCore.exchange.Goals as goal

pub free-requires-clause-within : goal.free-requires-clause-within
free-requires-clause-within g c =
    let m : Machine g.row.E.Denot = record { head = c.self.inside.head; rooms = c.self.inside.rooms; parties = c.self.inside.parties.items } in
    let at : slice_get m.parties c.args.party ≡ Some (Set c.args.attempt) = ap (λ (n : Machine g.row.E.Denot). slice_get n.parties c.args.party) c.self.view_is ∙ c.requires in
    (element_at m c.args.attempt.room (set_room m c.args.party c.args.attempt c.self.invariant at)).0

pub free-requires-clause-full : goal.free-requires-clause-full
free-requires-clause-full g c =
    let m : Machine g.row.E.Denot = record { head = c.self.inside.head; rooms = c.self.inside.rooms; parties = c.self.inside.parties.items } in
    let at : slice_get m.parties c.args.party ≡ Some (Set c.args.attempt) = ap (λ (n : Machine g.row.E.Denot). slice_get n.parties c.args.party) c.self.view_is ∙ c.requires in
    (element_at m c.args.attempt.room (set_room m c.args.party c.args.attempt c.self.invariant at)).1

pub invariant_of-self : goal.invariant_of-self
invariant_of-self g c =
    let m : Machine g.row.E.Denot = record { head = c.self.inside.head; rooms = c.self.inside.rooms; parties = c.self.inside.parties.items } in
    let at : slice_get m.parties c.args.party ≡ Some (Set c.args.attempt) = ap (λ (n : Machine g.row.E.Denot). slice_get n.parties c.args.party) c.self.view_is ∙ c.requires in
    sound_push m c.args.party c.args.attempt c.self.invariant at (sym c.eq.ensures ∙ c.if-eq.true)

pub invariant_of-self-else-eq : goal.invariant_of-self-else-eq
invariant_of-self-else-eq g c =
    let m : Machine g.row.E.Denot = record { head = c.self.inside.head; rooms = c.self.inside.rooms; parties = c.self.inside.parties.items } in
    let at : slice_get m.parties c.args.party ≡ Some (Set c.args.attempt) = ap (λ (n : Machine g.row.E.Denot). slice_get n.parties c.args.party) c.self.view_is ∙ c.requires in
    sound_fail m c.args.party c.args.attempt c.free.new.self c.self.invariant at (sym c.eq.ensures ∙ c.if-eq.false) c.free.ensures.rooms
