use Rattle.std.proofs.Common.{[], ◌∷◌, Some, None, refl, sym, ap, ◌∙◌}
use Rattle.freelist.specs.Users.{rooms_of, local_party}
use Rattle.freelist.specs.declared.laws.Command.TheVariants as kinds
use Rattle.freelist.proofs.Steps.{with, begins, idles, carries_get}
use Rattle.freelist.proofs.laws.User.get.Goals as goal

pub returns-in-Some-get : goal.returns-in-Some-get
returns-in-Some-get g c =
    let el = g.T.Linked.element in
    let i = c.self.inside in
    begins el (kinds.Get ∷ []) (with el i.list.now i.hand (Some c.in-Some.local) i.party i.spare) c.args.self.now _
    (ap (λ z. with el i.list.now i.hand z i.party i.spare) (sym c.in-Some.is) ∙ c.self.view_is)
    (carries_get el i.list.now i.hand c.push.new.self c.in-Some.local c.get.new.self i.party i.spare (Some c.in-Some-get.handle) c.in-Some-get.ensures c.push.ensures)

pub returns-in_default-get : goal.returns-in_default-get
returns-in_default-get g c =
    let el = g.T.Linked.element in
    let i = c.self.inside in
    begins el (kinds.Get ∷ []) (with el i.list.now i.hand (Some c.in-Some.local) i.party i.spare) c.args.self.now _
    (ap (λ z. with el i.list.now i.hand z i.party i.spare) (sym c.in-Some.is) ∙ c.self.view_is)
    (carries_get el i.list.now i.hand i.hand c.in-Some.local c.get.new.self i.party i.spare None c.in_default-get.ensures refl)

pub returns-in_default : goal.returns-in_default
returns-in_default g c =
    let el = g.T.Linked.element in
    let i = c.self.inside in
    idles el kinds.Get (with el i.list.now i.hand i.local i.party i.spare) c.args.self.now _ c.self.view_is refl
    (ap (λ z. rooms_of (local_party z)) c.in_default.is)
