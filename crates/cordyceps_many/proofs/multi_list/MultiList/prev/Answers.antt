use Rattle.std.proofs.Common.{◌≡◌, true, ◌∷◌, ◌++◌, sym, ap, ◌∙◌, subst}
use denote.RawPtr.{InBlock, Testable}
use Rattle.cordyceps_base.specs.Boxes.{box_addresses}
use Rattle.cordyceps_many.specs.declared.hook.Hook.{Hook}
use Rattle.cordyceps_many.specs.Rows.{hook_at}
use Rattle.cordyceps_many.specs.Threads.{is_in, ends_in}
use Rattle.cordyceps_many.specs.MultiList.{list_at}
use Rattle.cordyceps_many.proofs.Members.{earlier_in, lifted, if_some}
use Rattle.cordyceps_many.proofs.Reached.{solid, prev_reached}
use Rattle.cordyceps_many.proofs.Shared.{linked, in_spot, listed}
use Rattle.cordyceps_many.proofs.Between.{prev_is}
use Rattle.cordyceps_many.proofs.Threads.{thread_goes}
use Rattle.cordyceps_many.proofs.multi_list.MultiList.prev.Goals as goal

pub hook_of-requires : goal.hook_of-requires
hook_of-requires g c =
    let ns = c.self.inside.row.boxes.blocks in let es = c.self.inside.ends in let v = c.args.self.now in let inv = c.self.invariant in let seen = c.self.view_is in let k = g.H.Rows.count in
    record { there = subst (λ q. is_in q (box_addresses ns) ≡ true) (sym c.address_of.ensures) (listed k es ns v inv seen c.args.i c.args.at c.requires.in_list); within = c.requires.within }

pub spot_unless_null-requires : goal.spot_unless_null-requires
spot_unless_null-requires g c =
    let ns = c.self.inside.row.boxes.blocks in let es = c.self.inside.ends in let v = c.args.self.now in let inv = c.self.invariant in let seen = c.self.view_is in let k = g.H.Rows.count in
    let i = c.args.i in let q = c.args.at in let s = list_at i v.lists in let e = ends_in es i in let w = linked k es ns v inv seen i in let is = c.hook_of.ensures ∙ ap (hook_at ns i) c.address_of.ensures in
    subst (λ (h : Hook). Testable h.prev.ptr) (sym is) (prev_reached ns inv.parts.comparable i e s (thread_goes (hook_at ns i) e s w) q c.requires.in_list).testable

pub returns-clause-step : goal.returns-clause-step
returns-clause-step g c =
    let ns = c.self.inside.row.boxes.blocks in let es = c.self.inside.ends in let v = c.args.self.now in let inv = c.self.invariant in let seen = c.self.view_is in let k = g.H.Rows.count in
    let i = c.args.i in let q = c.args.at in let s = list_at i v.lists in let e = ends_in es i in let w = linked k es ns v inv seen i in let is = c.hook_of.ensures ∙ ap (hook_at ns i) c.address_of.ensures in let step = prev_is (hook_at ns i) e s q w.once w.chain c.requires.in_list in
    lifted c.spot_unless_null.result c.spot_unless_null.ensures
    (λ z. step.1 (sym (ap (λ (h : Hook). h.prev.ptr) is) ∙ z) (solid ns inv.parts.comparable i e s (thread_goes (hook_at ns i) e s w)))
    (λ r d. let (l, m, eq) = step.0 (subst (λ (h : Hook). InBlock h.prev.ptr) is (subst InBlock d.1 d.0)) in record { before = l; after = m; whole = eq ∙ ap (λ z. l ++ z ∷ q ∷ m) (sym (d.1 ∙ ap (λ (h : Hook). h.prev.ptr) is)) })

pub returns-clause-in_list : goal.returns-clause-in_list
returns-clause-in_list g c =
    let ns = c.self.inside.row.boxes.blocks in let es = c.self.inside.ends in let v = c.args.self.now in let inv = c.self.invariant in let seen = c.self.view_is in let k = g.H.Rows.count in
    if_some _ c.spot_unless_null.result (returns-clause-step g c) (λ r n. earlier_in (list_at c.args.i v.lists) r c.args.at n)

pub returns-clause-there : goal.returns-clause-there
returns-clause-there g c =
    let ns = c.self.inside.row.boxes.blocks in let es = c.self.inside.ends in let v = c.args.self.now in let inv = c.self.invariant in let seen = c.self.view_is in let k = g.H.Rows.count in
    if_some _ c.spot_unless_null.result (returns-clause-step g c) (λ r n. in_spot k es ns v inv seen r (listed k es ns v inv seen c.args.i r (earlier_in (list_at c.args.i v.lists) r c.args.at n)))
