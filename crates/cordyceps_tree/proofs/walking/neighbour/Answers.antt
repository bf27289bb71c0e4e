use Rattle.std.proofs.Common.{not, sym, ap, ◌∙◌, subst}
use Rattle.cordyceps_base.specs.Boxes.{box_addresses}
use Rattle.cordyceps_base.specs.declared.boxes.Address.{Address}
use Rattle.cordyceps_tree.specs.declared.hook.Hook.{Hook}
use Rattle.cordyceps_tree.specs.Rows.{hook_at}
use Rattle.cordyceps_tree.specs.Trees.{kid, IsDown}
use Rattle.cordyceps_tree.proofs.Descending.{across, kid_down, kid_next, down_reaches}
use Rattle.cordyceps_tree.proofs.HookRows.{comparable_at}
use Rattle.cordyceps_tree.proofs.Leaving.{at_place}
use Rattle.cordyceps_tree.proofs.Raising.{if_not}
use Rattle.cordyceps_tree.proofs.walking.neighbour.Goals as goal

pub is_not_null-requires : goal.is_not_null-requires
is_not_null-requires g c =
    let ns = c.args.row.now.boxes.blocks in let f = hook_at ns in let ps = box_addresses ns in let r = c.args.root.ptr in let p = c.args.at.ptr in let d = c.args.side in let t = c.requires.tree in let u = at_place ns r p t c.requires.there in
    let is = c.kid-next.ensures ∙ ap (λ (z : Hook). kid z d) c.hook_of.ensures in
    let down : IsDown f ps (not d) (across d u) c.kid-next.result.ptr = subst (λ (z : Address). IsDown f ps (not d) (across d u) z.ptr) (sym is) (kid_down f r t.settled.shape p ps u t.settled.order d) in
    (down_reaches f ps (not d) (across d u) c.kid-next.result.ptr down t.comparable).testable

pub outermost-requires-clause-down : goal.outermost-requires-clause-down
outermost-requires-clause-down g c =
    let ns = c.args.row.now.boxes.blocks in let f = hook_at ns in let ps = box_addresses ns in let r = c.args.root.ptr in let p = c.args.at.ptr in let d = c.args.side in let t = c.requires.tree in let u = at_place ns r p t c.requires.there in
    let is = c.kid-next.ensures ∙ ap (λ (z : Hook). kid z d) c.hook_of.ensures in
    let down : IsDown f ps (not d) (across d u) c.kid-next.result.ptr = subst (λ (z : Address). IsDown f ps (not d) (across d u) z.ptr) (sym is) (kid_down f r t.settled.shape p ps u t.settled.order d) in
    (across d u, down)

pub climbed-requires-clause-outer : goal.climbed-requires-clause-outer
climbed-requires-clause-outer g c =
    let is = c.kid-next.ensures ∙ ap (λ (z : Hook). kid z c.args.side) c.hook_of.ensures in
    sym (ap (λ (z : Address). z.ptr) is) ∙ if_not _ c.is_not_null.result c.is_not_null.ensures c.if-is_not_null.false

pub returns-then-is_not_null : goal.returns-then-is_not_null
returns-then-is_not_null g c =
    let ns = c.args.row.now.boxes.blocks in let f = hook_at ns in let ps = box_addresses ns in let r = c.args.root.ptr in let p = c.args.at.ptr in let d = c.args.side in let t = c.requires.tree in let u = at_place ns r p t c.requires.there in
    let is = c.kid-next.ensures ∙ ap (λ (z : Hook). kid z d) c.hook_of.ensures in
    let down : IsDown f ps (not d) (across d u) c.kid-next.result.ptr = subst (λ (z : Address). IsDown f ps (not d) (across d u) z.ptr) (sym is) (kid_down f r t.settled.shape p ps u t.settled.order d) in
    kid_next f r t.settled.shape p ps u t.settled.order d c.outermost.result.ptr (c.outermost.ensures.end (across d u) down) (comparable_at ps c.outermost.result.ptr t.comparable c.outermost.ensures.there).0
