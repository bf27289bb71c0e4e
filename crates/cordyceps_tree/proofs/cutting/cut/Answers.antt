use Rattle.std.proofs.Common.{◌≡◌, ◌⊎◌, ◌++◌, length, refl, sym, ap, ◌∙◌, subst, arith}
use denote.RawPtr.{null_ptr, InBlock, Testable}
use Rattle.cordyceps_base.specs.Boxes.{box_addresses}
use Rattle.cordyceps_tree.specs.declared.hook.Hook.{Hook}
use Rattle.cordyceps_tree.specs.Rows.{hook_at, block_element}
use Rattle.cordyceps_tree.specs.Trees.{Reaches, IsUnder, IsHung, IsUnsettled, before, after, flat}
use Rattle.cordyceps_tree.proofs.Leaving.{only, at_place, leave_order, leave_left, leave_only, leave_up, leave_unsettled, leave_gone, leave_few, lifted_joined}
use Rattle.cordyceps_tree.proofs.cutting.cut.Goals as goal

pub lifted-one-requires-clause-there : goal.lifted-one-requires-clause-there
lifted-one-requires-clause-there g c =
    let ns = c.args.row.now.boxes.blocks in let f = hook_at ns in let ps = box_addresses ns in let r = c.args.root.ptr in let p = c.args.at.ptr in let t = c.requires.tree in let there = c.requires.there in
    let u = at_place ns r p t there in
    let is : c.hook_of-hook.result ≡ f p = c.hook_of-hook.ensures in
    (before u.steps ++ flat u.left, flat u.right ++ after u.steps, leave_order ns r p t there u)

pub only_kid-only-requires : goal.only_kid-only-requires
only_kid-only-requires g c =
    let ns = c.args.row.now.boxes.blocks in let f = hook_at ns in let ps = box_addresses ns in let r = c.args.root.ptr in let p = c.args.at.ptr in let t = c.requires.tree in let there = c.requires.there in
    let u = at_place ns r p t there in
    let is : c.hook_of-hook.result ≡ f p = c.hook_of-hook.ensures in
    subst (λ (h : Hook). Testable h.left.ptr) (sym is) (leave_left ns r p t there u).testable

pub set_up-requires : goal.set_up-requires
set_up-requires g c =
    let ns = c.args.row.now.boxes.blocks in let f = hook_at ns in let ps = box_addresses ns in let r = c.args.root.ptr in let p = c.args.at.ptr in let t = c.requires.tree in let there = c.requires.there in
    let u = at_place ns r p t there in
    let is : c.hook_of-hook.result ≡ f p = c.hook_of-hook.ensures in
    let ms = c.lifted-one.new.row.boxes.blocks in let a = before u.steps ++ flat u.left in let b = flat u.right ++ after u.steps in
    let w = c.lifted-one.ensures.lifted a b (leave_order ns r p t there u) in let j = lifted_joined ms a b p c.lifted-one.result.boxes.blocks ns w in let e = block_element w.block in
    let d = c.lifted-one.ensures.distinct in let k = c.lifted-one.ensures.comparable in
    let x = c.only_kid-only.result in
    let which : (InBlock (f p).left.ptr × (x ≡ (f p).left)) ⊎ (((f p).left.ptr ≡ null_ptr) × (x ≡ (f p).right)) = subst (λ (h : Hook). (InBlock h.left.ptr × (x ≡ h.left)) ⊎ ((h.left.ptr ≡ null_ptr) × (x ≡ h.right))) is c.only_kid-only.ensures in
    let o = only f p u.left u.right x u.linked.left u.linked.right u.balanced c.requires.single which in
    leave_only ns r p t there u ms e j d k x o

pub hung-root-requires : goal.hung-root-requires
hung-root-requires g c =
    let ns = c.args.row.now.boxes.blocks in let f = hook_at ns in let ps = box_addresses ns in let r = c.args.root.ptr in let p = c.args.at.ptr in let t = c.requires.tree in let there = c.requires.there in
    let u = at_place ns r p t there in
    let is : c.hook_of-hook.result ≡ f p = c.hook_of-hook.ensures in
    let ms = c.lifted-one.new.row.boxes.blocks in let a = before u.steps ++ flat u.left in let b = flat u.right ++ after u.steps in
    let w = c.lifted-one.ensures.lifted a b (leave_order ns r p t there u) in let j = lifted_joined ms a b p c.lifted-one.result.boxes.blocks ns w in let e = block_element w.block in
    let d = c.lifted-one.ensures.distinct in let k = c.lifted-one.ensures.comparable in
    let x = c.only_kid-only.result in
    let which : (InBlock (f p).left.ptr × (x ≡ (f p).left)) ⊎ (((f p).left.ptr ≡ null_ptr) × (x ≡ (f p).right)) = subst (λ (h : Hook). (InBlock h.left.ptr × (x ≡ h.left)) ⊎ ((h.left.ptr ≡ null_ptr) × (x ≡ h.right))) is c.only_kid-only.ensures in
    let o = only f p u.left u.right x u.linked.left u.linked.right u.balanced c.requires.single which in
    subst (λ s. Reaches c.hook_of-hook.result.up.ptr s) (sym c.set_up.ensures.rest.addresses) (subst (λ (h : Hook). Reaches h.up.ptr (box_addresses ms)) (sym is) (leave_up ns r p t there u ms e j d k x o))

pub settled-root-requires-clause-tree : goal.settled-root-requires-clause-tree
settled-root-requires-clause-tree g c =
    let ns = c.args.row.now.boxes.blocks in let f = hook_at ns in let ps = box_addresses ns in let r = c.args.root.ptr in let p = c.args.at.ptr in let t = c.requires.tree in let there = c.requires.there in
    let u = at_place ns r p t there in
    let is : c.hook_of-hook.result ≡ f p = c.hook_of-hook.ensures in
    let ms = c.lifted-one.new.row.boxes.blocks in let a = before u.steps ++ flat u.left in let b = flat u.right ++ after u.steps in
    let w = c.lifted-one.ensures.lifted a b (leave_order ns r p t there u) in let j = lifted_joined ms a b p c.lifted-one.result.boxes.blocks ns w in let e = block_element w.block in
    let d = c.lifted-one.ensures.distinct in let k = c.lifted-one.ensures.comparable in
    let x = c.only_kid-only.result in
    let which : (InBlock (f p).left.ptr × (x ≡ (f p).left)) ⊎ (((f p).left.ptr ≡ null_ptr) × (x ≡ (f p).right)) = subst (λ (h : Hook). (InBlock h.left.ptr × (x ≡ h.left)) ⊎ ((h.left.ptr ≡ null_ptr) × (x ≡ h.right))) is c.only_kid-only.ensures in
    let o = only f p u.left u.right x u.linked.left u.linked.right u.balanced c.requires.single which in
    let g1 = hook_at c.set_up.new.row.boxes.blocks in let g2 = hook_at c.hung-root.new.row.boxes.blocks in
    let under = subst (λ (h : Hook). IsUnder (hook_at ms) x.ptr h.up h.side g1) is c.set_up.ensures.set in
    let hung = subst (λ (h : Hook). IsHung g1 h.up.ptr h.side x c.args.root g2 c.hung-root.result) is c.hung-root.ensures.hung in
    subst (λ s. IsUnsettled g2 s c.hung-root.result.ptr c.hook_of-hook.result.up.ptr) (sym (c.hung-root.ensures.rest.addresses ∙ c.set_up.ensures.rest.addresses))
    (subst (λ (h : Hook). IsUnsettled g2 (box_addresses ms) c.hung-root.result.ptr h.up.ptr) (sym is) (leave_unsettled ns r p t there u ms e j d k x o g1 g2 c.args.root c.hung-root.result refl under hung))

pub settled-root-requires-clause-few : goal.settled-root-requires-clause-few
settled-root-requires-clause-few g c =
    let ns = c.args.row.now.boxes.blocks in let f = hook_at ns in let ps = box_addresses ns in let r = c.args.root.ptr in let p = c.args.at.ptr in let t = c.requires.tree in let there = c.requires.there in
    let u = at_place ns r p t there in
    let is : c.hook_of-hook.result ≡ f p = c.hook_of-hook.ensures in
    let ms = c.lifted-one.new.row.boxes.blocks in let a = before u.steps ++ flat u.left in let b = flat u.right ++ after u.steps in
    let w = c.lifted-one.ensures.lifted a b (leave_order ns r p t there u) in let j = lifted_joined ms a b p c.lifted-one.result.boxes.blocks ns w in let e = block_element w.block in
    let d = c.lifted-one.ensures.distinct in let k = c.lifted-one.ensures.comparable in
    let few = c.requires.few in let n = leave_few ms a b p e ns j in let m = ap length (c.hung-root.ensures.rest.addresses ∙ c.set_up.ensures.rest.addresses) in
    omega (arith, few, n, m)

pub returns-clause-gone : goal.returns-clause-gone
returns-clause-gone g c =
    let ns = c.args.row.now.boxes.blocks in let f = hook_at ns in let ps = box_addresses ns in let r = c.args.root.ptr in let p = c.args.at.ptr in let t = c.requires.tree in let there = c.requires.there in
    let u = at_place ns r p t there in
    let is : c.hook_of-hook.result ≡ f p = c.hook_of-hook.ensures in
    let ms = c.lifted-one.new.row.boxes.blocks in let a = before u.steps ++ flat u.left in let b = flat u.right ++ after u.steps in
    let w = c.lifted-one.ensures.lifted a b (leave_order ns r p t there u) in let j = lifted_joined ms a b p c.lifted-one.result.boxes.blocks ns w in let e = block_element w.block in
    let d = c.lifted-one.ensures.distinct in let k = c.lifted-one.ensures.comparable in
    leave_gone ms a b p c.lifted-one.result.boxes.blocks ns _ w (c.settled-root.ensures.rest.nodes ∙ c.hung-root.ensures.rest.nodes ∙ c.set_up.ensures.rest.nodes)
