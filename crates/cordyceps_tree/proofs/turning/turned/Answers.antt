use Rattle.std.proofs.Common.{◌≡◌, true, suc, max, not, sym, ap, ◌∙◌, subst, arith}
use Rattle.cordyceps_base.specs.Boxes.{box_addresses}
use Rattle.cordyceps_base.specs.declared.boxes.Address.{Address}
use Rattle.cordyceps_tree.specs.declared.hook.Hook.{Hook}
use Rattle.cordyceps_tree.specs.Rows.{hook_at}
use Rattle.cordyceps_tree.specs.Trees.{is_in, Reaches, kid, with_kid, under, high, Wrote, IsUnder, height_at}
use Rattle.cordyceps_tree.proofs.HookRows.{keeps_both}
use Rattle.cordyceps_tree.proofs.Rotations.{turned_by, low_hook, high_hook}
use Rattle.cordyceps_tree.proofs.Reaching.{turn_at, turn_top, turn_inner, turn_outer, turn_other, inner_low, outer_low, other_low}
use Rattle.cordyceps_tree.proofs.turning.turned.Goals as goal

pub hook_of-low-requires : goal.hook_of-low-requires
hook_of-low-requires g c = let ns = c.args.row.now.boxes.blocks in turn_at (hook_at ns) (box_addresses ns) c.args.at.ptr c.args.side c.requires.comparable c.requires.tree

pub hook_of-high-requires : goal.hook_of-high-requires
hook_of-high-requires g c =
    let ns = c.args.row.now.boxes.blocks in
    let read : c.kid-top.result ≡ kid (hook_at ns c.args.at.ptr) c.args.side = c.kid-top.ensures ∙ ap (λ (h : Hook). kid h c.args.side) c.hook_of-low.ensures in
    subst (λ (z : Address). is_in z.ptr (box_addresses ns) ≡ true) (sym read) (turn_top (hook_at ns) (box_addresses ns) c.args.at.ptr c.args.side c.requires.comparable c.requires.tree)

pub height_of-mid_height-requires : goal.height_of-mid_height-requires
height_of-mid_height-requires g c =
    let ns = c.args.row.now.boxes.blocks in
    let read : c.kid-top.result ≡ kid (hook_at ns c.args.at.ptr) c.args.side = c.kid-top.ensures ∙ ap (λ (h : Hook). kid h c.args.side) c.hook_of-low.ensures in
    let is : c.kid-mid.result ≡ kid (hook_at ns c.kid-top.result.ptr) (not c.args.side) = c.kid-mid.ensures ∙ ap (λ (h : Hook). kid h (not c.args.side)) c.hook_of-high.ensures in
    subst (λ (z : Address). Reaches z.ptr (box_addresses ns)) (sym is) (turn_inner (hook_at ns) (box_addresses ns) c.args.at.ptr c.args.side c.requires.comparable c.requires.tree c.kid-top.result read)

pub height_of-other_height-requires : goal.height_of-other_height-requires
height_of-other_height-requires g c =
    let ns = c.args.row.now.boxes.blocks in
    let is : c.kid-other.result ≡ kid (hook_at ns c.args.at.ptr) (not c.args.side) = c.kid-other.ensures ∙ ap (λ (h : Hook). kid h (not c.args.side)) c.hook_of-low.ensures in
    subst (λ (z : Address). Reaches z.ptr (box_addresses ns)) (sym is) (turn_other (hook_at ns) (box_addresses ns) c.args.at.ptr c.args.side c.requires.comparable c.requires.tree)

pub height_of-outer_height-requires : goal.height_of-outer_height-requires
height_of-outer_height-requires g c =
    let ns = c.args.row.now.boxes.blocks in
    let read : c.kid-top.result ≡ kid (hook_at ns c.args.at.ptr) c.args.side = c.kid-top.ensures ∙ ap (λ (h : Hook). kid h c.args.side) c.hook_of-low.ensures in
    let is : c.kid-outer.result ≡ kid (hook_at ns c.kid-top.result.ptr) c.args.side = c.kid-outer.ensures ∙ ap (λ (h : Hook). kid h c.args.side) c.hook_of-high.ensures in
    subst (λ (z : Address). Reaches z.ptr (box_addresses ns)) (sym is) (turn_outer (hook_at ns) (box_addresses ns) c.args.at.ptr c.args.side c.requires.comparable c.requires.tree c.kid-top.result read)

pub over-below-requires : goal.over-below-requires
over-below-requires g c =
    let ns = c.args.row.now.boxes.blocks in
    let read : c.kid-top.result ≡ kid (hook_at ns c.args.at.ptr) c.args.side = c.kid-top.ensures ∙ ap (λ (h : Hook). kid h c.args.side) c.hook_of-low.ensures in
    let is1 : c.kid-mid.result ≡ kid (hook_at ns c.kid-top.result.ptr) (not c.args.side) = c.kid-mid.ensures ∙ ap (λ (h : Hook). kid h (not c.args.side)) c.hook_of-high.ensures in
    let is2 : c.kid-other.result ≡ kid (hook_at ns c.args.at.ptr) (not c.args.side) = c.kid-other.ensures ∙ ap (λ (h : Hook). kid h (not c.args.side)) c.hook_of-low.ensures in
    let h1 = c.height_of-mid_height.ensures ∙ ap (λ (z : Address). height_at (hook_at ns) z.ptr) is1 in
    let h2 = c.height_of-other_height.ensures ∙ ap (λ (z : Address). height_at (hook_at ns) z.ptr) is2 in
    let l1 = inner_low (hook_at ns) (box_addresses ns) c.args.at.ptr c.args.side c.requires.comparable c.requires.tree c.kid-top.result read in
    let l2 = other_low (hook_at ns) (box_addresses ns) c.args.at.ptr c.args.side c.requires.comparable c.requires.tree in
    (omega (arith, h1, l1), omega (arith, h2, l2))

pub over-above-requires : goal.over-above-requires
over-above-requires g c =
    let ns = c.args.row.now.boxes.blocks in
    let read : c.kid-top.result ≡ kid (hook_at ns c.args.at.ptr) c.args.side = c.kid-top.ensures ∙ ap (λ (h : Hook). kid h c.args.side) c.hook_of-low.ensures in
    let is1 : c.kid-mid.result ≡ kid (hook_at ns c.kid-top.result.ptr) (not c.args.side) = c.kid-mid.ensures ∙ ap (λ (h : Hook). kid h (not c.args.side)) c.hook_of-high.ensures in
    let is2 : c.kid-other.result ≡ kid (hook_at ns c.args.at.ptr) (not c.args.side) = c.kid-other.ensures ∙ ap (λ (h : Hook). kid h (not c.args.side)) c.hook_of-low.ensures in
    let is3 : c.kid-outer.result ≡ kid (hook_at ns c.kid-top.result.ptr) c.args.side = c.kid-outer.ensures ∙ ap (λ (h : Hook). kid h c.args.side) c.hook_of-high.ensures in
    let h1 = c.height_of-mid_height.ensures ∙ ap (λ (z : Address). height_at (hook_at ns) z.ptr) is1 in
    let h2 = c.height_of-other_height.ensures ∙ ap (λ (z : Address). height_at (hook_at ns) z.ptr) is2 in
    let h3 = c.height_of-outer_height.ensures ∙ ap (λ (z : Address). height_at (hook_at ns) z.ptr) is3 in
    let l1 = inner_low (hook_at ns) (box_addresses ns) c.args.at.ptr c.args.side c.requires.comparable c.requires.tree c.kid-top.result read in
    let l2 = other_low (hook_at ns) (box_addresses ns) c.args.at.ptr c.args.side c.requires.comparable c.requires.tree in
    let l3 = outer_low (hook_at ns) (box_addresses ns) c.args.at.ptr c.args.side c.requires.comparable c.requires.tree c.kid-top.result read in
    let o = c.over-below.ensures in
    (omega (arith, h3, l3), omega (arith, o, h1, h2, l1, l2))

pub set_hook-requires : goal.set_hook-requires
set_hook-requires g c = let ns = c.args.row.now.boxes.blocks in turn_at (hook_at ns) (box_addresses ns) c.args.at.ptr c.args.side c.requires.comparable c.requires.tree

pub set_hook-requires-2 : goal.set_hook-requires-2
set_hook-requires-2 g c =
    let ns = c.args.row.now.boxes.blocks in
    let read : c.kid-top.result ≡ kid (hook_at ns c.args.at.ptr) c.args.side = c.kid-top.ensures ∙ ap (λ (h : Hook). kid h c.args.side) c.hook_of-low.ensures in
    subst (λ s. is_in c.kid-top.result.ptr s ≡ true) (sym c.set_hook.ensures.rest.addresses) (subst (λ (z : Address). is_in z.ptr (box_addresses ns) ≡ true) (sym read) (turn_top (hook_at ns) (box_addresses ns) c.args.at.ptr c.args.side c.requires.comparable c.requires.tree))

pub set_up-requires : goal.set_up-requires
set_up-requires g c =
    let ns = c.args.row.now.boxes.blocks in
    let read : c.kid-top.result ≡ kid (hook_at ns c.args.at.ptr) c.args.side = c.kid-top.ensures ∙ ap (λ (h : Hook). kid h c.args.side) c.hook_of-low.ensures in
    let is : c.kid-mid.result ≡ kid (hook_at ns c.kid-top.result.ptr) (not c.args.side) = c.kid-mid.ensures ∙ ap (λ (h : Hook). kid h (not c.args.side)) c.hook_of-high.ensures in
    subst (λ s. Reaches c.kid-mid.result.ptr s) (sym (c.set_hook-2.ensures.rest.addresses ∙ c.set_hook.ensures.rest.addresses))
    (subst (λ (z : Address). Reaches z.ptr (box_addresses ns)) (sym is) (turn_inner (hook_at ns) (box_addresses ns) c.args.at.ptr c.args.side c.requires.comparable c.requires.tree c.kid-top.result read))

pub returns-clause-turned : goal.returns-clause-turned
returns-clause-turned g c = λ q s a x m e w o.
    let ns = c.args.row.now.boxes.blocks in let f = hook_at ns in let d = c.args.side in let at = c.args.at in let top = c.kid-top.result in
    let low : c.hook_of-low.result ≡ f at.ptr = c.hook_of-low.ensures in
    let high1 : c.hook_of-high.result ≡ f top.ptr = c.hook_of-high.ensures in
    let read : top ≡ kid (f at.ptr) d = c.kid-top.ensures ∙ ap (λ (h : Hook). kid h d) low in
    let mid : c.kid-mid.result ≡ kid (f top.ptr) (not d) = c.kid-mid.ensures ∙ ap (λ (h : Hook). kid h (not d)) high1 in
    let other : c.kid-other.result ≡ kid (f at.ptr) (not d) = c.kid-other.ensures ∙ ap (λ (h : Hook). kid h (not d)) low in
    let outer : c.kid-outer.result ≡ kid (f top.ptr) d = c.kid-outer.ensures ∙ ap (λ (h : Hook). kid h d) high1 in
    let down : c.moved-down.result ≡ low_hook f d at top c.over-below.result = c.moved-down.ensures ∙ (λ i. high (under (with_kid (low i) d (mid i)) top (not d)) c.over-below.result) in
    let up : c.moved-up.result ≡ high_hook f d at top c.over-above.result = c.moved-up.ensures ∙ (λ i. high (under (with_kid (high1 i) (not d) at) (low i).up (low i).side) c.over-above.result) in
    let f1 = hook_at c.set_hook.new.row.boxes.blocks in let f2 = hook_at c.set_hook-2.new.row.boxes.blocks in let f3 = hook_at c.set_up.new.row.boxes.blocks in
    turned_by f f1 f2 f3 q s d a x m e at top c.over-below.result c.over-above.result read w o
    (subst (λ h. Wrote f at.ptr h f1) down c.set_hook.ensures.set)
    (subst (λ h. Wrote f1 top.ptr h f2) up c.set_hook-2.ensures.set)
    (subst (λ (z : Address). IsUnder f2 z.ptr at d f3) mid c.set_up.ensures.set)
    (c.over-below.ensures ∙ (λ i. suc (max ((c.height_of-mid_height.ensures ∙ ap (λ (z : Address). height_at f z.ptr) mid) i) ((c.height_of-other_height.ensures ∙ ap (λ (z : Address). height_at f z.ptr) other) i))))
    (c.over-above.ensures ∙ ap (λ z. suc (max z c.over-below.result)) (c.height_of-outer_height.ensures ∙ ap (λ (z : Address). height_at f z.ptr) outer))

pub returns-clause-rest : goal.returns-clause-rest
returns-clause-rest g c =
    let ns = c.args.row.now.boxes.blocks in let n1 = c.set_hook.new.row.boxes.blocks in let n2 = c.set_hook-2.new.row.boxes.blocks in let n3 = c.set_up.new.row.boxes.blocks in
    keeps_both ns n2 n3 (keeps_both ns n1 n2 c.set_hook.ensures.rest c.set_hook-2.ensures.rest) c.set_up.ensures.rest
