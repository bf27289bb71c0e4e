use Rattle.std.proofs.Common.{[], ◌∷◌, Some, None, inl, inr, sym, ap, ◌∙◌}
use Rattle.freelist.specs.Users.{rooms_of}
use Rattle.freelist.specs.declared.laws.Command.TheVariants as kinds
use Rattle.freelist.proofs.Steps.{with, begins, ends, idles, none_of, some_local, carries_open}
use Rattle.freelist.proofs.laws.User.open.Goals.{in-Some-1, in-None-1}
use Rattle.freelist.proofs.laws.User.open.Goals as goal

pub returns-in-Some : goal.returns-in-Some
returns-in-Some g c =
    let el = g.T.Linked.element in
    let i = c.self.inside in
    let closed = none_of i.local c.if-is_none.ensures in
    let done =
    begins el (kinds.Open ∷ []) (with el i.list.now i.hand None i.party (Some c.in-Some.party)) c.args.self.now (with el i.list.now i.hand (Some c.local.result) i.party None)
    (ap (λ z. with el i.list.now i.hand z i.party (Some c.in-Some.party)) (sym closed) ∙ (ap (λ z. with el i.list.now i.hand i.local i.party z) c.in-Some.ensures.value ∙ c.self.view_is))
    (carries_open el i.list.now i.hand i.party c.in-Some.party c.local.result c.local.ensures.0 c.local.ensures.1) in
    let now = ap (λ z. with el i.list.now i.hand (Some c.local.result) i.party z) (sym c.in-Some.ensures.after) in
    elim c.match-self.branch [
      | in-Some-1 w ↦ ends el (kinds.Open ∷ []) c.args.self.now _ c.match-self.self (now ∙ sym w.self-is) done
      | in-None-1 w ↦ ends el (kinds.Open ∷ []) c.args.self.now _ c.match-self.self (now ∙ sym w.self-is) done
    ]

pub returns-in_default : goal.returns-in_default
returns-in_default g c =
    let el = g.T.Linked.element in
    let i = c.self.inside in
    let none = c.in_default.ensures in
    idles el kinds.Open (with el i.list.now i.hand i.local i.party i.spare) c.args.self.now _ c.self.view_is
    (ap (λ z. with el i.list.now i.hand i.local i.party z) (sym none.value ∙ sym none.after))
    (inr (ap rooms_of (sym none.value)))

pub returns-else-is_none : goal.returns-else-is_none
returns-else-is_none g c =
    let el = g.T.Linked.element in
    let i = c.self.inside in
    idles el kinds.Open (with el i.list.now i.hand i.local i.party i.spare) c.args.self.now _ c.self.view_is c.self.view_is
    (inl (some_local i.local c.if-is_none.ensures))
