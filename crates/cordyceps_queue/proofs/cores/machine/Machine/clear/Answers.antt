use Rattle.std.proofs.Common.{◌≡◌, ◌<◌, length, Some, ap, sym, subst, ◌∙◌, arith}
use Rattle.cordyceps_queue.specs.Cores.Machine.{Machine, least_free}
use Rattle.std.proofs.lemmas.Option.{slice_get_within}
use Rattle.cordyceps_queue.proofs.CoreTheory.RoomsAtStages.{free_within}
use Rattle.cordyceps_queue.proofs.cores.machine.Machine.clear.Goals as goal

pub hold-requires-clause-within : goal.hold-requires-clause-within
hold-requires-clause-within g c =
    let free : least_free c.args.party c.args.self.now.rooms ≡ Some c.in-Some.room = ap (λ (n : Machine g.row.E.Denot). least_free c.args.party n.rooms) (sym c.self.view_is) ∙ (sym c.least_free.ensures ∙ c.in-Some.is) in
    let w = free_within c.args.self.now c.requires.sound c.args.party c.in-Some.room c.requires.at free in
    subst (λ (n : Machine g.row.E.Denot). c.in-Some.room < length n.rooms) (sym c.self.view_is) w.1

pub hold-requires-clause-not_stub : goal.hold-requires-clause-not_stub
hold-requires-clause-not_stub g c =
    let free : least_free c.args.party c.args.self.now.rooms ≡ Some c.in-Some.room = ap (λ (n : Machine g.row.E.Denot). least_free c.args.party n.rooms) (sym c.self.view_is) ∙ (sym c.least_free.ensures ∙ c.in-Some.is) in
    (free_within c.args.self.now c.requires.sound c.args.party c.in-Some.room c.requires.at free).0

pub index_mut-requires : goal.index_mut-requires
index_mut-requires g c =
    let l = slice_get_within c.args.self.now.parties c.args.party _ c.requires.at in
    let here : c.args.party < length c.self.inside.parties.items = subst (λ (n : Machine g.row.E.Denot). c.args.party < length n.parties) (sym c.self.view_is) l in
    omega (arith, here)
