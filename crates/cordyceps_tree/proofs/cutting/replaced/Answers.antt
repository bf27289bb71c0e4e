use Rattle.std.proofs.Common.{◌≡◌, true, false, ◌++◌, refl, sym, ◌∙◌, subst}
use Rattle.cordyceps_base.specs.Boxes.{box_addresses}
use Rattle.cordyceps_base.specs.Spots.{AreDistinct, AreNullComparable}
use Rattle.cordyceps_tree.specs.declared.hook.Hook.{Hook}
use Rattle.cordyceps_tree.specs.Rows.{hook_at}
use Rattle.cordyceps_tree.specs.Trees.{Reaches, Wrote, IsUnder, IsHung, IsSettled, before, after, flat}
use Rattle.cordyceps_tree.proofs.Leaving.{at_place, leave_order}
use Rattle.cordyceps_tree.proofs.Replacing.{trade_in, trade_left, trade_right, trade_up, trade_settled, trade_nodes}
use Rattle.cordyceps_tree.proofs.cutting.replaced.Goals as goal

pub traded-old-requires-clause-there : goal.traded-old-requires-clause-there
traded-old-requires-clause-there g c =
    let ns = c.args.row.now.boxes.blocks in let f = hook_at ns in let ps = box_addresses ns in let r = c.args.root.ptr in let p = c.args.at.ptr in let t = c.requires.tree in let there = c.requires.there in
    let u = at_place ns r p t there in
    let is : c.hook_of-hook.result ≡ f p = c.hook_of-hook.ensures in
    (before u.steps ++ flat u.left, flat u.right ++ after u.steps, leave_order ns r p t there u)

pub set_hook-requires : goal.set_hook-requires
set_hook-requires g c =
    let ns = c.args.row.now.boxes.blocks in let f = hook_at ns in let ps = box_addresses ns in let r = c.args.root.ptr in let p = c.args.at.ptr in let t = c.requires.tree in let there = c.requires.there in
    let u = at_place ns r p t there in
    let is : c.hook_of-hook.result ≡ f p = c.hook_of-hook.ensures in
    let ms = c.traded-old.new.row.boxes.blocks in let old = c.traded-old.result.boxes.blocks in let more = c.args.one.boxes.blocks in let a = before u.steps ++ flat u.left in let b = flat u.right ++ after u.steps in
    let k = c.traded-old.ensures.traded a b (leave_order ns r p t there u) in let (h, x, one) = c.requires.one in
    let d = c.traded-old.ensures.distinct in let cm = c.traded-old.ensures.comparable in
    trade_in ns ms old more r p c.args.next t u k h x one d cm

pub set_up-requires : goal.set_up-requires
set_up-requires g c =
    let ns = c.args.row.now.boxes.blocks in let f = hook_at ns in let ps = box_addresses ns in let r = c.args.root.ptr in let p = c.args.at.ptr in let t = c.requires.tree in let there = c.requires.there in
    let u = at_place ns r p t there in
    let is : c.hook_of-hook.result ≡ f p = c.hook_of-hook.ensures in
    let ms = c.traded-old.new.row.boxes.blocks in let old = c.traded-old.result.boxes.blocks in let more = c.args.one.boxes.blocks in let a = before u.steps ++ flat u.left in let b = flat u.right ++ after u.steps in
    let k = c.traded-old.ensures.traded a b (leave_order ns r p t there u) in let (h, x, one) = c.requires.one in
    let d = c.traded-old.ensures.distinct in let cm = c.traded-old.ensures.comparable in
    subst (λ s. Reaches c.hook_of-hook.result.left.ptr s) (sym c.set_hook.ensures.rest.addresses) (subst (λ (z : Hook). Reaches z.left.ptr (box_addresses ms)) (sym is) (trade_left ns ms old more r p c.args.next t u k h x one d cm))

pub set_up-requires-2 : goal.set_up-requires-2
set_up-requires-2 g c =
    let ns = c.args.row.now.boxes.blocks in let f = hook_at ns in let ps = box_addresses ns in let r = c.args.root.ptr in let p = c.args.at.ptr in let t = c.requires.tree in let there = c.requires.there in
    let u = at_place ns r p t there in
    let is : c.hook_of-hook.result ≡ f p = c.hook_of-hook.ensures in
    let ms = c.traded-old.new.row.boxes.blocks in let old = c.traded-old.result.boxes.blocks in let more = c.args.one.boxes.blocks in let a = before u.steps ++ flat u.left in let b = flat u.right ++ after u.steps in
    let k = c.traded-old.ensures.traded a b (leave_order ns r p t there u) in let (h, x, one) = c.requires.one in
    let d = c.traded-old.ensures.distinct in let cm = c.traded-old.ensures.comparable in
    subst (λ s. Reaches c.hook_of-hook.result.right.ptr s) (sym (c.set_up.ensures.rest.addresses ∙ c.set_hook.ensures.rest.addresses)) (subst (λ (z : Hook). Reaches z.right.ptr (box_addresses ms)) (sym is) (trade_right ns ms old more r p c.args.next t u k h x one d cm))

pub hung-root-requires : goal.hung-root-requires
hung-root-requires g c =
    let ns = c.args.row.now.boxes.blocks in let f = hook_at ns in let ps = box_addresses ns in let r = c.args.root.ptr in let p = c.args.at.ptr in let t = c.requires.tree in let there = c.requires.there in
    let u = at_place ns r p t there in
    let is : c.hook_of-hook.result ≡ f p = c.hook_of-hook.ensures in
    let ms = c.traded-old.new.row.boxes.blocks in let old = c.traded-old.result.boxes.blocks in let more = c.args.one.boxes.blocks in let a = before u.steps ++ flat u.left in let b = flat u.right ++ after u.steps in
    let k = c.traded-old.ensures.traded a b (leave_order ns r p t there u) in let (h, x, one) = c.requires.one in
    let d = c.traded-old.ensures.distinct in let cm = c.traded-old.ensures.comparable in
    subst (λ s. Reaches c.hook_of-hook.result.up.ptr s) (sym (c.set_up-2.ensures.rest.addresses ∙ c.set_up.ensures.rest.addresses ∙ c.set_hook.ensures.rest.addresses)) (subst (λ (z : Hook). Reaches z.up.ptr (box_addresses ms)) (sym is) (trade_up ns ms old more r p c.args.next t u k h x one d cm))

pub returns-clause-tree : goal.returns-clause-tree
returns-clause-tree g c =
    let ns = c.args.row.now.boxes.blocks in let f = hook_at ns in let ps = box_addresses ns in let r = c.args.root.ptr in let p = c.args.at.ptr in let t = c.requires.tree in let there = c.requires.there in
    let u = at_place ns r p t there in
    let is : c.hook_of-hook.result ≡ f p = c.hook_of-hook.ensures in
    let ms = c.traded-old.new.row.boxes.blocks in let old = c.traded-old.result.boxes.blocks in let more = c.args.one.boxes.blocks in let a = before u.steps ++ flat u.left in let b = flat u.right ++ after u.steps in
    let k = c.traded-old.ensures.traded a b (leave_order ns r p t there u) in let (h, x, one) = c.requires.one in
    let d = c.traded-old.ensures.distinct in let cm = c.traded-old.ensures.comparable in
    let g1 = hook_at c.set_hook.new.row.boxes.blocks in let g2 = hook_at c.set_up.new.row.boxes.blocks in let g3 = hook_at c.set_up-2.new.row.boxes.blocks in let g4 = hook_at c.hung-root.new.row.boxes.blocks in
    let n = c.args.next in
    let w1 = subst (λ (z : Hook). Wrote (hook_at ms) n.ptr z g1) is c.set_hook.ensures.set in
    let w2 = subst (λ (z : Hook). IsUnder g1 z.left.ptr n false g2) is c.set_up.ensures.set in
    let w3 = subst (λ (z : Hook). IsUnder g2 z.right.ptr n true g3) is c.set_up-2.ensures.set in
    let hung = subst (λ (z : Hook). IsHung g3 z.up.ptr z.side n c.args.root g4 c.hung-root.result) is c.hung-root.ensures.hung in
    let same = c.hung-root.ensures.rest.addresses ∙ c.set_up-2.ensures.rest.addresses ∙ c.set_up.ensures.rest.addresses ∙ c.set_hook.ensures.rest.addresses in
    record {
      settled = subst (λ s. IsSettled g4 s c.hung-root.result.ptr) (sym same) (trade_settled ns ms old more r p c.args.next t u k h x one d cm g1 g2 g3 g4 c.args.root c.hung-root.result refl w1 w2 w3 hung);
      distinct = subst AreDistinct (sym same) d;
      comparable = subst AreNullComparable (sym same) cm;
    }

pub returns-clause-swapped : goal.returns-clause-swapped
returns-clause-swapped g c =
    λ e e1. let ns = c.args.row.now.boxes.blocks in let r = c.args.root.ptr in let p = c.args.at.ptr in let t = c.requires.tree in let there = c.requires.there in
    let u = at_place ns r p t there in
    let ms = c.traded-old.new.row.boxes.blocks in let old = c.traded-old.result.boxes.blocks in let more = c.args.one.boxes.blocks in let a = before u.steps ++ flat u.left in let b = flat u.right ++ after u.steps in
    let k = c.traded-old.ensures.traded a b (leave_order ns r p t there u) in let (h, x, one) = c.requires.one in
    let d = c.traded-old.ensures.distinct in let cm = c.traded-old.ensures.comparable in
    trade_nodes ns a b p old more ms c.args.next.ptr e _ k e1 (c.hung-root.ensures.rest.nodes ∙ c.set_up-2.ensures.rest.nodes ∙ c.set_up.ensures.rest.nodes ∙ c.set_hook.ensures.rest.nodes)
