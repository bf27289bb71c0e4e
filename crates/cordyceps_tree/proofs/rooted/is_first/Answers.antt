use Rattle.std.proofs.Common.{false, ◌++◌, sym, ap, ◌∙◌, subst}
use denote.RawPtr.{InBlock, Testable}
use Rattle.cordyceps_base.specs.Boxes.{box_addresses}
use Rattle.cordyceps_tree.specs.declared.hook.Hook.{Hook}
use Rattle.cordyceps_tree.specs.Rows.{hook_at}
use Rattle.cordyceps_tree.specs.Trees.{before, after, flat}
use Rattle.cordyceps_tree.proofs.Firsts.{some_ahead, none_ahead, some_left}
use Rattle.cordyceps_tree.proofs.Leaving.{at_place, leave_order, leave_left}
use Rattle.cordyceps_tree.proofs.Raising.{if_so, if_not}
use Rattle.cordyceps_tree.proofs.Saying.{neighbour_reaches}
use Rattle.cordyceps_tree.proofs.rooted.is_first.Goals as goal

pub is_not_null-requires : goal.is_not_null-requires
is_not_null-requires g c =
    let ns = c.args.row.now.boxes.blocks in let r = c.args.root.ptr in let p = c.args.at.ptr in let t = c.requires.tree in let u = at_place ns r p t c.requires.there in
    subst (λ (h : Hook). Testable h.left.ptr) (sym c.hook_of.ensures) (leave_left ns r p t c.requires.there u).testable

pub climbed-requires-clause-outer : goal.climbed-requires-clause-outer
climbed-requires-clause-outer g c =
    sym (ap (λ (h : Hook). h.left.ptr) c.hook_of.ensures) ∙ if_not _ c.is_not_null.result c.is_not_null.ensures c.if-is_not_null.false

pub is_null-requires : goal.is_null-requires
is_null-requires g c = (neighbour_reaches false _ c.args.at.ptr c.climbed.result.ptr c.requires.tree.comparable c.climbed.ensures).testable

pub returns-then-is_not_null : goal.returns-then-is_not_null
returns-then-is_not_null g c = λ a b is.
    let ns = c.args.row.now.boxes.blocks in let r = c.args.root.ptr in let p = c.args.at.ptr in let t = c.requires.tree in let u = at_place ns r p t c.requires.there in
    let solid = subst (λ (h : Hook). InBlock h.left.ptr) c.hook_of.ensures (if_so _ c.is_not_null.result c.is_not_null.ensures c.if-is_not_null.true) in
    some_ahead (box_addresses ns) p t.distinct a b is (before u.steps ++ flat u.left) (flat u.right ++ after u.steps) (leave_order ns r p t c.requires.there u)
    (some_left (hook_at ns) p (hook_at ns p).left.ptr u.left (before u.steps) u.linked.left solid)

pub returns : goal.returns
returns g c = λ a b is.
    none_ahead (box_addresses c.args.row.now.boxes.blocks) c.args.at.ptr c.requires.tree.distinct a b is c.is_null.result c.climbed.result.ptr c.climbed.ensures c.is_null.ensures
