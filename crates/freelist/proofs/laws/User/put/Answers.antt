use Rattle.std.proofs.Common.{[], ◌∷◌, Some, inl, inr, refl, sym, ap, ◌∙◌}
use Rattle.freelist.specs.Users.{rooms_of, local_party}
use Rattle.freelist.specs.declared.laws.Command.TheVariants as kinds
use Rattle.freelist.proofs.Steps.{with, begins, idles, carries_put}
use Rattle.freelist.proofs.laws.User.put.Goals as goal

pub returns-in-Some-pop : goal.returns-in-Some-pop
returns-in-Some-pop g c =
    let el = g.T.Linked.element in
    let i = c.self.inside in
    begins el (kinds.Put ∷ []) (with el i.list.now i.hand (Some c.in-Some.local) i.party i.spare) c.args.self.now _
    (ap (λ z. with el i.list.now i.hand z i.party i.spare) (sym c.in-Some.is) ∙ c.self.view_is)
    (carries_put el i.list.now i.hand c.pop.new.self c.in-Some.local c.put.new.self i.party i.spare c.in-Some-pop.handle c.in-Some-pop.ensures c.put.ensures.blocks c.put.ensures.party)

pub returns-in_default-pop : goal.returns-in_default-pop
returns-in_default-pop g c =
    let el = g.T.Linked.element in
    let i = c.self.inside in
    let none = c.in_default-pop.ensures in
    idles el kinds.Put (with el i.list.now i.hand i.local i.party i.spare) c.args.self.now _ c.self.view_is
    (ap (λ z. with el i.list.now z i.local i.party i.spare) (none.0 ∙ sym none.1) ∙ ap (λ z. with el i.list.now c.pop.new.self z i.party i.spare) c.in-Some.is)
    (inl none.0)

pub returns-in_default : goal.returns-in_default
returns-in_default g c =
    let el = g.T.Linked.element in
    let i = c.self.inside in
    idles el kinds.Put (with el i.list.now i.hand i.local i.party i.spare) c.args.self.now _ c.self.view_is refl
    (inr (ap (λ z. rooms_of (local_party z)) c.in_default.is))
