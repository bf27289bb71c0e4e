use Rattle.std.proofs.Common.{[], ◌∷◌, Some, None, sym, ap, ◌∙◌}
use Rattle.freelist.specs.Users.{rooms_of}
use Rattle.freelist.specs.declared.laws.Command.TheVariants as kinds
use Rattle.freelist.proofs.Steps.{with, begins, ends, idles, carries_absorb}
use Rattle.freelist.proofs.laws.User.absorb.Goals as goal

pub returns-in-Some-clause-carries : goal.returns-in-Some-clause-carries
returns-in-Some-clause-carries g c =
    let el = g.T.Linked.element in
    let i = c.self.inside in
    begins el (kinds.Absorb ∷ []) (with el i.list.now i.hand i.local i.party (Some c.in-Some.spare)) c.args.self.now _
    (ap (λ z. with el i.list.now i.hand i.local i.party z) c.in-Some.ensures.value ∙ c.self.view_is)
    (ends el (kinds.Absorb ∷ []) (with el i.list.now i.hand i.local i.party (Some c.in-Some.spare)) (with el i.list.now i.hand i.local c.absorb.new.party None) _
    (ap (λ z. with el i.list.now i.hand i.local c.absorb.new.party z) (sym c.in-Some.ensures.after))
    (carries_absorb el i.list.now i.hand i.local i.party c.absorb.new.party c.in-Some.spare c.absorb.ensures))

pub returns-in_default-clause-carries : goal.returns-in_default-clause-carries
returns-in_default-clause-carries g c =
    let el = g.T.Linked.element in
    let i = c.self.inside in
    let none = c.in_default.ensures in
    idles el kinds.Absorb (with el i.list.now i.hand i.local i.party i.spare) c.args.self.now _ c.self.view_is
    (ap (λ z. with el i.list.now i.hand i.local i.party z) (sym none.value ∙ sym none.after))
    (ap rooms_of (sym none.value))
