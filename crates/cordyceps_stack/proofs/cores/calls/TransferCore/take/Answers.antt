use Rattle.std.proofs.Common.{◌≡◌, ap, ◌∙◌}
use Rattle.std.specs.Prelude.{slice_get, Some}
use Rattle.cordyceps_stack.specs.declared.cores.stage.Stage.TheVariants.{Rest}
use Rattle.cordyceps_stack.specs.Cores.Machine.{Machine}
use Rattle.cordyceps_stack.proofs.CoreTheory.CoreKeeps.{sound_take}
use Rattle.cordyceps_stack.proofs.cores.calls.TransferCore.take.Goals as goal

pub invariant_of-self : goal.invariant_of-self
invariant_of-self g c =
    let m : Machine g.row.E.Denot = record { head = c.self.inside.head; rooms = c.self.inside.rooms; parties = c.self.inside.parties.items } in
    let at : slice_get m.parties c.args.party ≡ Some Rest = ap (λ (n : Machine g.row.E.Denot). slice_get n.parties c.args.party) c.self.view_is ∙ c.requires in
    sound_take m c.args.party c.in-Some.room c.self.invariant at c.in-Some.is
