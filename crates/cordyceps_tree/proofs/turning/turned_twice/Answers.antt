use Rattle.std.proofs.Common.{◌≡◌, true, not, sym, ap, ◌∙◌, subst}
use Rattle.cordyceps_base.specs.Boxes.{box_addresses}
use Rattle.cordyceps_base.specs.Spots.{AreNullComparable}
use Rattle.cordyceps_tree.specs.declared.hook.Hook.{Hook}
use Rattle.cordyceps_tree.specs.Rows.{hook_at}
use Rattle.cordyceps_tree.specs.Trees.{is_in, kid, with_kid, join, Wrote, CanTurn}
use Rattle.cordyceps_tree.proofs.HookRows.{keeps_both}
use Rattle.cordyceps_tree.proofs.Leaning.{first_turn, second_turn, twice_at, child_hangs, first_sole, second_hangs, second_sole, twice_done}
use Rattle.cordyceps_tree.proofs.turning.turned_twice.Goals as goal

pub turned-mid-requires-clause-tree : goal.turned-mid-requires-clause-tree
turned-mid-requires-clause-tree g c = let ns = c.args.row.now.boxes.blocks in first_turn (hook_at ns) (box_addresses ns) c.args.at.ptr c.args.top.ptr c.args.side c.requires.tree

pub hook_of-hook-requires : goal.hook_of-hook-requires
hook_of-hook-requires g c =
    let ns = c.args.row.now.boxes.blocks in
    subst (λ s. is_in c.args.at.ptr s ≡ true) (sym c.turned-mid.ensures.rest.addresses) (twice_at (hook_at ns) (box_addresses ns) c.args.at.ptr c.args.top.ptr c.args.side c.requires.tree)

pub set_hook-requires : goal.set_hook-requires
set_hook-requires g c =
    let ns = c.args.row.now.boxes.blocks in
    subst (λ s. is_in c.args.at.ptr s ≡ true) (sym c.turned-mid.ensures.rest.addresses) (twice_at (hook_at ns) (box_addresses ns) c.args.at.ptr c.args.top.ptr c.args.side c.requires.tree)

pub turned-requires-clause-tree : goal.turned-requires-clause-tree
turned-requires-clause-tree g c =
    let ns = c.args.row.now.boxes.blocks in let f = hook_at ns in let ps = box_addresses ns in let d = c.args.side in let p = c.args.at.ptr in let top = c.args.top.ptr in let v = c.requires.tree in
    let f1 = hook_at c.turned-mid.new.row.boxes.blocks in let f2 = hook_at c.set_hook.new.row.boxes.blocks in let mid = c.turned-mid.result in
    let first = first_turn f ps p top d v in
    let t = c.turned-mid.ensures.turned p d v.x v.inner v.y v.outer (child_hangs f d p (kid (f p) d).ptr v.outer top (join (not d) v.x v.inner v.y) v.hangs.here) (first_sole d v.outer top (join (not d) v.x v.inner v.y) p v.other v.sole) in
    let is : c.with_kid-next.result ≡ with_kid (f1 p) d mid = c.with_kid-next.ensures ∙ ap (λ (h : Hook). with_kid h d mid) c.hook_of-hook.ensures in
    let wrote = subst (λ h. Wrote f1 p h f2) is c.set_hook.ensures.set in
    subst (λ s. CanTurn f2 s p d) (sym (c.set_hook.ensures.rest.addresses ∙ c.turned-mid.ensures.rest.addresses)) (second_turn f f1 f2 ps p top d v mid t wrote)

pub turned-requires-clause-comparable : goal.turned-requires-clause-comparable
turned-requires-clause-comparable g c = subst AreNullComparable (sym (c.set_hook.ensures.rest.addresses ∙ c.turned-mid.ensures.rest.addresses)) c.requires.comparable

pub returns-clause-turned : goal.returns-clause-turned
returns-clause-turned g c = λ q s a x i y e w o.
    let ns = c.args.row.now.boxes.blocks in let f = hook_at ns in let d = c.args.side in let p = c.args.at.ptr in let top = c.args.top.ptr in
    let f1 = hook_at c.turned-mid.new.row.boxes.blocks in let f2 = hook_at c.set_hook.new.row.boxes.blocks in let f3 = hook_at c.turned.new.row.boxes.blocks in let mid = c.turned-mid.result in
    let t = c.turned-mid.ensures.turned p d x i y a (child_hangs f d p (kid (f p) d).ptr a top (join (not d) x i y) w.here) (first_sole d a top (join (not d) x i y) p e o) in
    let is : c.with_kid-next.result ≡ with_kid (f1 p) d mid = c.with_kid-next.ensures ∙ ap (λ (h : Hook). with_kid h d mid) c.hook_of-hook.ensures in
    let wrote = subst (λ h. Wrote f1 p h f2) is c.set_hook.ensures.set in
    twice_done f f1 f2 q s d a top x i y p e mid w o t wrote f3 c.turned.result.ptr
    (c.turned.ensures.turned q s (join (not d) y top a) i x e (second_hangs f f1 f2 q s d a top x i y p e mid w o t wrote) (second_sole f f1 f2 q s d a top x i y p e mid w o t wrote))

pub returns-clause-rest : goal.returns-clause-rest
returns-clause-rest g c =
    let ns = c.args.row.now.boxes.blocks in let n1 = c.turned-mid.new.row.boxes.blocks in let n2 = c.set_hook.new.row.boxes.blocks in let n3 = c.turned.new.row.boxes.blocks in
    keeps_both ns n2 n3 (keeps_both ns n1 n2 c.turned-mid.ensures.rest c.set_hook.ensures.rest) c.turned.ensures.rest
