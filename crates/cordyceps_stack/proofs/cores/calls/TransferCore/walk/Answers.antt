use Rattle.std.proofs.Common.{◌≡◌, ◌<◌, length, arith, ap, sym, ◌∙◌}
use Rattle.std.specs.Prelude.{slice_get, Some, None}
use Rattle.std.proofs.lemmas.Option.{slice_get_within}
use Rattle.cordyceps_stack.specs.declared.cores.stage.Stage.TheVariants.{Walking}
use Rattle.cordyceps_stack.specs.Cores.Machine.{Machine}
use Rattle.cordyceps_stack.proofs.CoreTheory.CoreKeeps.{sound_walk, walking_room, element_at}
use Rattle.cordyceps_stack.proofs.cores.calls.TransferCore.walk.Goals as goal

pub next-next-requires : goal.next-next-requires
next-next-requires g c =
    let m : Machine g.row.E.Denot = record { head = c.self.inside.head; rooms = c.self.inside.rooms; parties = c.self.inside.parties.items } in
    let at : slice_get m.parties c.args.party ≡ Some (Walking c.args.room) = ap (λ (n : Machine g.row.E.Denot). slice_get n.parties c.args.party) c.self.view_is ∙ c.requires in
    (element_at m c.args.room (walking_room m c.args.party c.args.room c.self.invariant at)).0

pub free-element-requires-clause-within : goal.free-element-requires-clause-within
free-element-requires-clause-within g c =
    let m : Machine g.row.E.Denot = record { head = c.self.inside.head; rooms = c.self.inside.rooms; parties = c.self.inside.parties.items } in
    let at : slice_get m.parties c.args.party ≡ Some (Walking c.args.room) = ap (λ (n : Machine g.row.E.Denot). slice_get n.parties c.args.party) c.self.view_is ∙ c.requires in
    (element_at m c.args.room (walking_room m c.args.party c.args.room c.self.invariant at)).0

pub free-element-requires-clause-full : goal.free-element-requires-clause-full
free-element-requires-clause-full g c =
    let m : Machine g.row.E.Denot = record { head = c.self.inside.head; rooms = c.self.inside.rooms; parties = c.self.inside.parties.items } in
    let at : slice_get m.parties c.args.party ≡ Some (Walking c.args.room) = ap (λ (n : Machine g.row.E.Denot). slice_get n.parties c.args.party) c.self.view_is ∙ c.requires in
    (element_at m c.args.room (walking_room m c.args.party c.args.room c.self.invariant at)).1

pub index_mut-requires : goal.index_mut-requires
index_mut-requires g c =
    let m : Machine g.row.E.Denot = record { head = c.self.inside.head; rooms = c.self.inside.rooms; parties = c.self.inside.parties.items } in
    let at : slice_get m.parties c.args.party ≡ Some (Walking c.args.room) = ap (λ (n : Machine g.row.E.Denot). slice_get n.parties c.args.party) c.self.view_is ∙ c.requires in
    let within : c.args.party < length m.parties = slice_get_within m.parties c.args.party _ at in
    omega arith

pub index_mut-requires-in-Some : goal.index_mut-requires-in-Some
index_mut-requires-in-Some g c =
    let m : Machine g.row.E.Denot = record { head = c.self.inside.head; rooms = c.self.inside.rooms; parties = c.self.inside.parties.items } in
    let at : slice_get m.parties c.args.party ≡ Some (Walking c.args.room) = ap (λ (n : Machine g.row.E.Denot). slice_get n.parties c.args.party) c.self.view_is ∙ c.requires in
    let within : c.args.party < length m.parties = slice_get_within m.parties c.args.party _ at in
    omega arith

pub invariant_of-self : goal.invariant_of-self
invariant_of-self g c =
    let m : Machine g.row.E.Denot = record { head = c.self.inside.head; rooms = c.self.inside.rooms; parties = c.self.inside.parties.items } in
    let at : slice_get m.parties c.args.party ≡ Some (Walking c.args.room) = ap (λ (n : Machine g.row.E.Denot). slice_get n.parties c.args.party) c.self.view_is ∙ c.requires in
    sound_walk m c.args.party c.args.room None c.free-element.new.self c.self.invariant at (sym c.in-None.is ∙ c.next-next.ensures) c.free-element.ensures.rooms

pub invariant_of-self-in-Some : goal.invariant_of-self-in-Some
invariant_of-self-in-Some g c =
    let m : Machine g.row.E.Denot = record { head = c.self.inside.head; rooms = c.self.inside.rooms; parties = c.self.inside.parties.items } in
    let at : slice_get m.parties c.args.party ≡ Some (Walking c.args.room) = ap (λ (n : Machine g.row.E.Denot). slice_get n.parties c.args.party) c.self.view_is ∙ c.requires in
    sound_walk m c.args.party c.args.room (Some c.in-Some.following) c.free-element.new.self c.self.invariant at (sym c.in-Some.is ∙ c.next-next.ensures) c.free-element.ensures.rooms
