use Rattle.std.proofs.Common.{[], ◌∷◌, None, sym, ap, ◌∙◌}
use Rattle.freelist.specs.Users.{alone, closing}
use Rattle.freelist.specs.declared.laws.Command.TheVariants as kinds
use Rattle.freelist.proofs.Calls.{carries_then}
use Rattle.freelist.proofs.Steps.{with, ends}
use Rattle.freelist.proofs.laws.retire.Goals as goal

pub returns-clause-carries : goal.returns-clause-carries
returns-clause-carries g c =
    let el = g.T.Linked.element in
    let t = c.args.user.table in
    let w = c.absorb-2.new.self in
    let last = carries_then el (kinds.Finish ∷ []) (kinds.Absorb ∷ []) c.absorb.new.self c.finish.new.self w c.finish.ensures.carries c.absorb-2.ensures.carries in
    let all = carries_then el (kinds.Absorb ∷ []) (kinds.Finish ∷ kinds.Absorb ∷ []) c.args.user c.absorb.new.self w c.absorb.ensures.carries last in
    let closed = c.absorb-2.ensures.absorbed.1 ∙ c.finish.ensures.finished c.absorb.ensures.absorbed.0 in
    let parts = ap (λ z. with el z w.hand w.local w.party w.spare) all.table
    ∙ (ap (λ z. with el t w.hand z w.party w.spare) closed
    ∙ (ap (λ z. with el t w.hand None w.party z) c.absorb-2.ensures.absorbed.0
    ∙ ap (λ z. alone t z.hand z.party) (sym c.user.view_is))) in
    ends el closing c.args.user w _ parts all

pub returns-clause-table : goal.returns-clause-table
returns-clause-table g c =
    c.user.invariant.0 ∙ (ap (λ z. z.table) c.user.view_is ∙ (c.absorb-2.ensures.carries.table ∙ (c.finish.ensures.carries.table ∙ c.absorb.ensures.carries.table)))
