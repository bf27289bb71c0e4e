use Rattle.std.proofs.Common.{[], ◌∷◌, Some, None, inl, inr, sym, ap, ◌∙◌}
use Rattle.freelist.specs.Users.{rooms_of, local_party}
use Rattle.freelist.specs.declared.laws.Command.TheVariants as kinds
use Rattle.freelist.proofs.Steps.{with, begins, ends, idles, none_of, some_rooms, carries_finish}
use Rattle.freelist.proofs.laws.User.finish.Goals.{in-Some-1, in-None-1}
use Rattle.freelist.proofs.laws.User.finish.Goals as goal

pub returns-in-Some-clause-carries : goal.returns-in-Some-clause-carries
returns-in-Some-clause-carries g c =
    let el = g.T.Linked.element in
    let i = c.self.inside in
    let none = none_of i.spare c.if-is_none.ensures in
    let done =
    begins el (kinds.Finish ∷ []) (with el i.list.now i.hand (Some c.in-Some.local) i.party None) c.args.self.now (with el i.list.now c.pile.new.hand None i.party (Some c.finish-blocks.result.1))
    (ap (λ z. with el i.list.now i.hand z i.party None) c.in-Some.ensures.value ∙ (ap (λ z. with el i.list.now i.hand i.local i.party z) (sym none) ∙ c.self.view_is))
    (carries_finish el i.list.now i.hand c.pile.new.hand c.finish-blocks.result.0 c.in-Some.local i.party c.finish-blocks.result.1 c.finish-blocks.ensures.0 c.pile.ensures c.finish-blocks.ensures.1) in
    let now = ap (λ z. with el i.list.now c.pile.new.hand z i.party (Some c.finish-blocks.result.1)) (sym c.in-Some.ensures.after) in
    elim c.match-self.branch [
      | in-Some-1 w ↦ ends el (kinds.Finish ∷ []) c.args.self.now _ c.match-self.self (now ∙ sym w.self-is) done
      | in-None-1 w ↦ ends el (kinds.Finish ∷ []) c.args.self.now _ c.match-self.self (now ∙ sym w.self-is) done
    ]

pub returns-in_default-clause-carries : goal.returns-in_default-clause-carries
returns-in_default-clause-carries g c =
    let el = g.T.Linked.element in
    let i = c.self.inside in
    let none = c.in_default.ensures in
    idles el kinds.Finish (with el i.list.now i.hand i.local i.party i.spare) c.args.self.now _ c.self.view_is
    (ap (λ z. with el i.list.now i.hand z i.party i.spare) (sym none.value ∙ sym none.after))
    (inl (ap (λ z. rooms_of (local_party z)) (sym none.value)))

pub returns-else-is_none-clause-carries : goal.returns-else-is_none-clause-carries
returns-else-is_none-clause-carries g c =
    let el = g.T.Linked.element in
    let i = c.self.inside in
    idles el kinds.Finish (with el i.list.now i.hand i.local i.party i.spare) c.args.self.now _ c.self.view_is c.self.view_is
    (inr (some_rooms i.spare c.if-is_none.ensures))
