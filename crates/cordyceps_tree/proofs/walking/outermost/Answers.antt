use Rattle.std.proofs.Common.{◌<◌, sym, ap, ◌∙◌, subst}
use denote.RawPtr.{InBlock}
use Rattle.cordyceps_base.specs.Boxes.{box_addresses}
use Rattle.cordyceps_base.specs.declared.boxes.Address.{Address}
use Rattle.cordyceps_tree.specs.declared.hook.Hook.{Hook}
use Rattle.cordyceps_tree.specs.Rows.{hook_at}
use Rattle.cordyceps_tree.specs.Trees.{kid, IsDown, height_at}
use Rattle.cordyceps_tree.proofs.Descending.{down_reaches, down_on, down_end}
use Rattle.cordyceps_tree.proofs.Raising.{if_so, if_not}
use Rattle.cordyceps_tree.proofs.walking.outermost.Goals as goal

pub hook_of-requires : goal.hook_of-requires
hook_of-requires g c =
    let ns = c.args.row.now.boxes.blocks in let f = hook_at ns in let ps = box_addresses ns in let (far, u) = c.requires.down in
    (down_reaches f ps c.args.side far c.args.at.ptr u c.requires.comparable).there c.requires.some

pub loop-at-init : goal.loop-at-init
loop-at-init g c = record { down = λ far u. u; solid = c.requires.some; next = c.kid-next.ensures ∙ ap (λ (z : Hook). kid z c.args.side) c.hook_of.ensures }

pub is_not_null-requires : goal.is_not_null-requires
is_not_null-requires g c =
    let ns = c.args.row.now.boxes.blocks in let f = hook_at ns in let ps = box_addresses ns in let d = c.args.side in let (far, u) = c.requires.down in
    let h = c.loop-at.at.ptr in let v = c.loop-at.invariant.down far u in let on = down_on f ps d far h v c.loop-at.invariant.solid in
    let w : IsDown f ps d far c.loop-at.next.ptr = subst (λ (z : Address). IsDown f ps d far z.ptr) (sym c.loop-at.invariant.next) on.0 in
    (down_reaches f ps d far c.loop-at.next.ptr w c.requires.comparable).testable

pub hook_of-requires-in-loop-at : goal.hook_of-requires-in-loop-at
hook_of-requires-in-loop-at g c =
    let ns = c.args.row.now.boxes.blocks in let f = hook_at ns in let ps = box_addresses ns in let d = c.args.side in let (far, u) = c.requires.down in
    let h = c.loop-at.at.ptr in let v = c.loop-at.invariant.down far u in let on = down_on f ps d far h v c.loop-at.invariant.solid in
    let w : IsDown f ps d far c.loop-at.next.ptr = subst (λ (z : Address). IsDown f ps d far z.ptr) (sym c.loop-at.invariant.next) on.0 in
    let solid : InBlock c.loop-at.next.ptr = if_so _ c.is_not_null.result c.is_not_null.ensures c.loop-at-test.true in
    (down_reaches f ps d far c.loop-at.next.ptr w c.requires.comparable).there solid

pub loop-at-smaller : goal.loop-at-smaller
loop-at-smaller g c =
    let ns = c.args.row.now.boxes.blocks in let f = hook_at ns in let ps = box_addresses ns in let d = c.args.side in let (far, u) = c.requires.down in
    let h = c.loop-at.at.ptr in let v = c.loop-at.invariant.down far u in let on = down_on f ps d far h v c.loop-at.invariant.solid in
    let w : IsDown f ps d far c.loop-at.next.ptr = subst (λ (z : Address). IsDown f ps d far z.ptr) (sym c.loop-at.invariant.next) on.0 in
    let solid : InBlock c.loop-at.next.ptr = if_so _ c.is_not_null.result c.is_not_null.ensures c.loop-at-test.true in
    let is = c.kid-next-in-loop-at.ensures ∙ ap (λ (z : Hook). kid z d) c.hook_of-in-loop-at.ensures in
    subst (λ (z : Address). height_at f z.ptr < height_at f c.loop-at.next.ptr) (sym is) (down_on f ps d far c.loop-at.next.ptr w solid).1

pub loop-at-preserved : goal.loop-at-preserved
loop-at-preserved g c =
    let ns = c.args.row.now.boxes.blocks in let f = hook_at ns in let ps = box_addresses ns in let d = c.args.side in
    let solid : InBlock c.loop-at.next.ptr = if_so _ c.is_not_null.result c.is_not_null.ensures c.loop-at-test.true in
    record {
      down = λ far u. let v = c.loop-at.invariant.down far u in subst (λ (z : Address). IsDown f ps d far z.ptr) (sym c.loop-at.invariant.next) (down_on f ps d far c.loop-at.at.ptr v c.loop-at.invariant.solid).0;
      solid = solid;
      next = c.kid-next-in-loop-at.ensures ∙ ap (λ (z : Hook). kid z d) c.hook_of-in-loop-at.ensures;
    }

pub returns-clause-none_beyond : goal.returns-clause-none_beyond
returns-clause-none_beyond g c =
    sym (ap (λ (z : Address). z.ptr) c.loop-at.invariant.next) ∙ if_not _ c.is_not_null.result c.is_not_null.ensures c.loop-at-test.false

pub returns-clause-end : goal.returns-clause-end
returns-clause-end g c =
    λ far u. let ns = c.args.row.now.boxes.blocks in let f = hook_at ns in let ps = box_addresses ns in
    down_end f ps c.args.side far c.loop-at.at.ptr (c.loop-at.invariant.down far u) c.loop-at.invariant.solid (returns-clause-none_beyond g c)

pub returns-clause-there : goal.returns-clause-there
returns-clause-there g c =
    let ns = c.args.row.now.boxes.blocks in let f = hook_at ns in let ps = box_addresses ns in let (far, u) = c.requires.down in
    (down_reaches f ps c.args.side far c.loop-at.at.ptr (c.loop-at.invariant.down far u) c.requires.comparable).there c.loop-at.invariant.solid
