use Rattle.std.proofs.Common.{◌<◌, length, sym, subst}
use Rattle.cordyceps_base.specs.Boxes.{box_addresses}
use Rattle.cordyceps_tree.specs.declared.hook.Hook.{Hook}
use Rattle.cordyceps_tree.specs.Rows.{hook_at}
use Rattle.cordyceps_tree.specs.Trees.{IsClimbed, climb}
use Rattle.cordyceps_tree.proofs.Climbing.{climb_starts, climb_on, climb_ends, climb_reaches}
use Rattle.cordyceps_tree.proofs.Leaving.{at_place}
use Rattle.cordyceps_tree.proofs.Raising.{if_so, if_not}
use Rattle.cordyceps_tree.proofs.walking.climbed.Goals as goal

pub loop-own-init : goal.loop-own-init
loop-own-init g c =
    let ns = c.args.row.now.boxes.blocks in let f = hook_at ns in let ps = box_addresses ns in let r = c.args.root.ptr in let p = c.args.at.ptr in let d = c.args.side in let t = c.requires.tree in let u = at_place ns r p t c.requires.there in
    subst (λ (h : Hook). IsClimbed f r ps d p h.up.ptr h.side) (sym c.hook_of-own.ensures) (climb_starts f r t.settled.shape p ps u d t.settled.order c.requires.outer)

pub goes_on-requires : goal.goes_on-requires
goes_on-requires g c =
    let ns = c.args.row.now.boxes.blocks in
    (climb_reaches (hook_at ns) c.args.root.ptr (box_addresses ns) c.args.at.ptr c.loop-own.up.ptr c.args.side c.loop-own.own c.requires.tree.comparable c.loop-own.invariant).testable

pub hook_of-hook-requires : goal.hook_of-hook-requires
hook_of-hook-requires g c =
    let ns = c.args.row.now.boxes.blocks in let go = if_so _ c.goes_on.result c.goes_on.ensures c.loop-own-test.true in
    (climb_on (hook_at ns) c.args.root.ptr (box_addresses ns) c.args.at.ptr c.loop-own.up.ptr c.args.side c.loop-own.own go.0 go.1 c.loop-own.invariant).0

pub loop-own-preserved : goal.loop-own-preserved
loop-own-preserved g c =
    let ns = c.args.row.now.boxes.blocks in let f = hook_at ns in let ps = box_addresses ns in let r = c.args.root.ptr in let p = c.args.at.ptr in let d = c.args.side in
    let go = if_so _ c.goes_on.result c.goes_on.ensures c.loop-own-test.true in
    let on = climb_on f r ps p c.loop-own.up.ptr d c.loop-own.own go.0 go.1 c.loop-own.invariant in
    subst (λ (h : Hook). IsClimbed f r ps d p h.up.ptr h.side) (sym c.hook_of-hook.ensures) on.1

pub loop-own-smaller : goal.loop-own-smaller
loop-own-smaller g c =
    let ns = c.args.row.now.boxes.blocks in let f = hook_at ns in let ps = box_addresses ns in let r = c.args.root.ptr in let p = c.args.at.ptr in let d = c.args.side in
    let go = if_so _ c.goes_on.result c.goes_on.ensures c.loop-own-test.true in
    let on = climb_on f r ps p c.loop-own.up.ptr d c.loop-own.own go.0 go.1 c.loop-own.invariant in
    subst (λ (h : Hook). climb f (length ps) h.up.ptr < climb f (length ps) c.loop-own.up.ptr) (sym c.hook_of-hook.ensures) on.2

pub returns : goal.returns
returns g c =
    let ns = c.args.row.now.boxes.blocks in
    climb_ends (hook_at ns) c.args.root.ptr (box_addresses ns) c.args.at.ptr c.loop-own.up.ptr c.args.side c.loop-own.own (if_not _ c.goes_on.result c.goes_on.ensures c.loop-own-test.false) c.loop-own.invariant
