use Rattle.std.proofs.Common.{◌≡◌, ◌<◌, length, arith, ap, ◌∙◌}
use Rattle.std.specs.Prelude.{slice_get, Some}
use Rattle.std.proofs.lemmas.Option.{slice_get_within}
use Rattle.cordyceps_stack.specs.declared.cores.stage.Stage.TheVariants.{Loaded}
use Rattle.cordyceps_stack.specs.Cores.Machine.{Machine}
use Rattle.cordyceps_stack.proofs.CoreTheory.CoreKeeps.{sound_set_next, loaded_room, element_at}
use Rattle.cordyceps_stack.proofs.cores.calls.TransferCore.set_next.Goals as goal

pub link-requires : goal.link-requires
link-requires g c =
    let m : Machine g.row.E.Denot = record { head = c.self.inside.head; rooms = c.self.inside.rooms; parties = c.self.inside.parties.items } in
    let at : slice_get m.parties c.args.party ≡ Some (Loaded c.args.attempt) = ap (λ (n : Machine g.row.E.Denot). slice_get n.parties c.args.party) c.self.view_is ∙ c.requires in
    (element_at m c.args.attempt.room (loaded_room m c.args.party c.args.attempt c.self.invariant at)).0

pub index_mut-requires : goal.index_mut-requires
index_mut-requires g c =
    let m : Machine g.row.E.Denot = record { head = c.self.inside.head; rooms = c.self.inside.rooms; parties = c.self.inside.parties.items } in
    let at : slice_get m.parties c.args.party ≡ Some (Loaded c.args.attempt) = ap (λ (n : Machine g.row.E.Denot). slice_get n.parties c.args.party) c.self.view_is ∙ c.requires in
    let within : c.args.party < length m.parties = slice_get_within m.parties c.args.party _ at in
    omega arith

pub invariant_of-self : goal.invariant_of-self
invariant_of-self g c =
    let m : Machine g.row.E.Denot = record { head = c.self.inside.head; rooms = c.self.inside.rooms; parties = c.self.inside.parties.items } in
    let at : slice_get m.parties c.args.party ≡ Some (Loaded c.args.attempt) = ap (λ (n : Machine g.row.E.Denot). slice_get n.parties c.args.party) c.self.view_is ∙ c.requires in
    sound_set_next m c.args.party c.args.attempt c.link.new.self c.self.invariant at c.link.ensures
