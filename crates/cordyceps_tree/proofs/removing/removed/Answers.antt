use Rattle.std.proofs.Common.{◌≡◌, true, false, ◌∷◌, ◌++◌, sym, ap, ◌∙◌, subst}
use denote.RawPtr.{Testable}
use Rattle.cordyceps_base.specs.Boxes.{box_addresses}
use Rattle.cordyceps_base.specs.Nodes.{spots}
use Rattle.cordyceps_base.specs.Spots.{AreDistinct}
use Rattle.cordyceps_tree.specs.declared.hook.Hook.{Hook}
use Rattle.cordyceps_tree.specs.Rows.{hook_at, nodes_of, block_element}
use Rattle.cordyceps_tree.specs.Trees.{is_in, IsDown, before, flat}
use Rattle.cordyceps_tree.proofs.Descending.{across, kid_down, next_is, down_reaches, mid_in, two_gone}
use Rattle.cordyceps_tree.proofs.Leaving.{at_place, leave_left}
use Rattle.cordyceps_tree.proofs.Placing.{spots_of}
use Rattle.cordyceps_tree.proofs.removing.removed.Goals as goal

pub is_not_null-requires : goal.is_not_null-requires
is_not_null-requires g c =
    let ns = c.args.row.now.boxes.blocks in let f = hook_at ns in let ps = box_addresses ns in let r = c.args.root.ptr in let p = c.args.at.ptr in let t = c.requires.tree in let there = c.requires.there in
    let u = at_place ns r p t there in
    let is : c.hook_of-hook.result ≡ f p = c.hook_of-hook.ensures in
    subst (λ (h : Hook). Testable h.left.ptr) (sym is) (leave_left ns r p t there u).testable

pub is_not_null-requires-then-is_not_null : goal.is_not_null-requires-then-is_not_null
is_not_null-requires-then-is_not_null g c =
    let ns = c.args.row.now.boxes.blocks in let f = hook_at ns in let ps = box_addresses ns in let r = c.args.root.ptr in let p = c.args.at.ptr in let t = c.requires.tree in let there = c.requires.there in
    let u = at_place ns r p t there in
    let is : c.hook_of-hook.result ≡ f p = c.hook_of-hook.ensures in
    let far = across true u in
    let down : IsDown f ps false far c.hook_of-hook.result.right.ptr = subst (λ (z : Hook). IsDown f ps false far z.right.ptr) (sym is) (kid_down f r t.settled.shape p ps u t.settled.order true) in
    (down_reaches f ps false far c.hook_of-hook.result.right.ptr down t.comparable).testable

pub outermost-next-requires-clause-down : goal.outermost-next-requires-clause-down
outermost-next-requires-clause-down g c =
    let ns = c.args.row.now.boxes.blocks in let f = hook_at ns in let ps = box_addresses ns in let r = c.args.root.ptr in let p = c.args.at.ptr in let t = c.requires.tree in let there = c.requires.there in
    let u = at_place ns r p t there in
    let is : c.hook_of-hook.result ≡ f p = c.hook_of-hook.ensures in
    let far = across true u in
    let down : IsDown f ps false far c.hook_of-hook.result.right.ptr = subst (λ (z : Hook). IsDown f ps false far z.right.ptr) (sym is) (kid_down f r t.settled.shape p ps u t.settled.order true) in
    (far, down)

pub replaced-requires-clause-there : goal.replaced-requires-clause-there
replaced-requires-clause-there g c =
    let ns = c.args.row.now.boxes.blocks in let f = hook_at ns in let ps = box_addresses ns in let r = c.args.root.ptr in let p = c.args.at.ptr in let t = c.requires.tree in let there = c.requires.there in
    let u = at_place ns r p t there in
    let is : c.hook_of-hook.result ≡ f p = c.hook_of-hook.ensures in
    let far = across true u in
    let down : IsDown f ps false far c.hook_of-hook.result.right.ptr = subst (λ (z : Hook). IsDown f ps false far z.right.ptr) (sym is) (kid_down f r t.settled.shape p ps u t.settled.order true) in
    let q = c.outermost-next.result.ptr in let (b, e) = c.outermost-next.ensures.end far down in
    let a = before u.steps ++ flat u.left in
    let eq : spots (nodes_of ns) ≡ a ++ p ∷ q ∷ b = spots_of ns ∙ next_is f r t.settled.shape p ps u t.settled.order q b e in
    let dc = subst AreDistinct (sym (spots_of ns)) t.distinct in let gone = c.cut-one.ensures.gone in let ms = c.cut-one.new.row.boxes.blocks in
    subst (λ s. is_in p s ≡ true) (spots_of ms) (mid_in (nodes_of ns) (nodes_of ms) a b p q _ dc eq gone)

pub replaced-requires-clause-one : goal.replaced-requires-clause-one
replaced-requires-clause-one g c =
    let gone = c.cut-one.ensures.gone in (gone.alloc, gone.block, gone.alone)

pub returns-then-is_not_null-2-clause-gone : goal.returns-then-is_not_null-2-clause-gone
returns-then-is_not_null-2-clause-gone g c =
    let ns = c.args.row.now.boxes.blocks in let f = hook_at ns in let ps = box_addresses ns in let r = c.args.root.ptr in let p = c.args.at.ptr in let t = c.requires.tree in let there = c.requires.there in
    let u = at_place ns r p t there in
    let is : c.hook_of-hook.result ≡ f p = c.hook_of-hook.ensures in
    let far = across true u in
    let down : IsDown f ps false far c.hook_of-hook.result.right.ptr = subst (λ (z : Hook). IsDown f ps false far z.right.ptr) (sym is) (kid_down f r t.settled.shape p ps u t.settled.order true) in
    let q = c.outermost-next.result.ptr in let (b, e) = c.outermost-next.ensures.end far down in
    let a = before u.steps ++ flat u.left in
    let eq : spots (nodes_of ns) ≡ a ++ p ∷ q ∷ b = spots_of ns ∙ next_is f r t.settled.shape p ps u t.settled.order q b e in
    let dc = subst AreDistinct (sym (spots_of ns)) t.distinct in let gone = c.cut-one.ensures.gone in let ms = c.cut-one.new.row.boxes.blocks in
    let dm = subst AreDistinct (sym (spots_of ms)) c.cut-one.ensures.tree.distinct in
    two_gone (nodes_of ns) (nodes_of ms) (nodes_of c.replaced.new.row.boxes.blocks) a b p q c.cut-one.result.one.boxes.blocks c.replaced.result.one.boxes.blocks dc dm eq gone (c.replaced.ensures.swapped (block_element gone.block) (ap nodes_of gone.alone))
