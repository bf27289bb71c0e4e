use Rattle.std.proofs.Common.{◌≡◌, refl, sym, ap, ◌∙◌, subst}
use Rattle.cordyceps_base.specs.Boxes.{box_addresses}
use Rattle.cordyceps_tree.specs.declared.hook.Hook.{Hook}
use Rattle.cordyceps_tree.specs.Rows.{hook_at}
use Rattle.cordyceps_tree.specs.Trees.{Reaches}
use Rattle.cordyceps_tree.proofs.HookRows.{keeps_both}
use Rattle.cordyceps_tree.proofs.Raising.{next_of, next_in, next_mends, up_reaches, top_reaches, step_more, step_done, step_nearer, by_test, same_height}
use Rattle.cordyceps_tree.proofs.settle.raised.Goals as goal

pub hook_of-height-requires : goal.hook_of-height-requires
hook_of-height-requires g c =
    let ns = c.args.row.now.boxes.blocks in let f = hook_at ns in let ps = box_addresses ns in let p = c.args.at.ptr in let r = c.args.root.ptr in let n = next_of f ps r p c.requires.tree c.requires.some in
    next_in f ps r p n c.requires.distinct c.requires.few

pub mended-top-requires-clause-tree : goal.mended-top-requires-clause-tree
mended-top-requires-clause-tree g c =
    let ns = c.args.row.now.boxes.blocks in let f = hook_at ns in let ps = box_addresses ns in let p = c.args.at.ptr in let r = c.args.root.ptr in let n = next_of f ps r p c.requires.tree c.requires.some in
    next_mends f ps r p n c.requires.distinct c.requires.few

pub hung-root-requires : goal.hung-root-requires
hung-root-requires g c =
    let ns = c.args.row.now.boxes.blocks in let f = hook_at ns in let ps = box_addresses ns in let p = c.args.at.ptr in let r = c.args.root.ptr in let n = next_of f ps r p c.requires.tree c.requires.some in
    let is : c.hook_of-height.result ≡ f p = c.hook_of-height.ensures in let h = c.hook_of-height.result in
    subst (λ s. Reaches h.up.ptr s) (sym c.mended-top.ensures.rest.addresses) (subst (λ (z : Hook). Reaches z.up.ptr ps) (sym is) (up_reaches f ps r p n c.requires.distinct c.requires.few c.requires.comparable))

pub height_of-now-requires : goal.height_of-now-requires
height_of-now-requires g c =
    let ns = c.args.row.now.boxes.blocks in let f = hook_at ns in let ps = box_addresses ns in let p = c.args.at.ptr in let r = c.args.root.ptr in let n = next_of f ps r p c.requires.tree c.requires.some in
    let is : c.hook_of-height.result ≡ f p = c.hook_of-height.ensures in let h = c.hook_of-height.result in
    let g1 = hook_at c.mended-top.new.row.boxes.blocks in let g2 = hook_at c.hung-root.new.row.boxes.blocks in let top = c.mended-top.result in let res = c.hung-root.result in
    let eu = ap (λ (z : Hook). z.up.ptr) is in let es = ap (λ (z : Hook). z.side) is in
    subst (λ s. Reaches top.ptr s) (sym (c.hung-root.ensures.rest.addresses ∙ c.mended-top.ensures.rest.addresses)) (top_reaches f ps r p n c.requires.distinct c.requires.few g1 g2 h.up top c.args.root res h.side eu es refl c.mended-top.ensures.mended c.hung-root.ensures.hung c.requires.comparable)

pub returns-clause-tree : goal.returns-clause-tree
returns-clause-tree g c =
    let ns = c.args.row.now.boxes.blocks in let f = hook_at ns in let ps = box_addresses ns in let p = c.args.at.ptr in let r = c.args.root.ptr in let n = next_of f ps r p c.requires.tree c.requires.some in
    let is : c.hook_of-height.result ≡ f p = c.hook_of-height.ensures in let h = c.hook_of-height.result in
    let g1 = hook_at c.mended-top.new.row.boxes.blocks in let g2 = hook_at c.hung-root.new.row.boxes.blocks in let top = c.mended-top.result in let res = c.hung-root.result in
    let eu = ap (λ (z : Hook). z.up.ptr) is in let es = ap (λ (z : Hook). z.side) is in
    by_test _ (λ e. step_done f ps r p n c.requires.distinct c.requires.few g1 g2 h.up top c.args.root res h.side eu es refl c.mended-top.ensures.mended c.hung-root.ensures.hung (sym c.height_of-now.ensures ∙ same_height _ _ e ∙ ap (λ (z : Hook). z.height) is)) (λ e. step_more f ps r p n c.requires.distinct c.requires.few g1 g2 h.up top c.args.root res h.side eu es refl c.mended-top.ensures.mended c.hung-root.ensures.hung)

pub returns-clause-nearer : goal.returns-clause-nearer
returns-clause-nearer g c =
    let ns = c.args.row.now.boxes.blocks in let f = hook_at ns in let ps = box_addresses ns in let p = c.args.at.ptr in let r = c.args.root.ptr in let n = next_of f ps r p c.requires.tree c.requires.some in
    let is : c.hook_of-height.result ≡ f p = c.hook_of-height.ensures in let h = c.hook_of-height.result in
    let g1 = hook_at c.mended-top.new.row.boxes.blocks in let g2 = hook_at c.hung-root.new.row.boxes.blocks in let top = c.mended-top.result in let res = c.hung-root.result in
    let eu = ap (λ (z : Hook). z.up.ptr) is in let es = ap (λ (z : Hook). z.side) is in
    step_nearer f ps r p n c.requires.distinct c.requires.few g1 g2 h.up top c.args.root res h.side eu es refl c.mended-top.ensures.mended c.hung-root.ensures.hung

pub returns-clause-rest : goal.returns-clause-rest
returns-clause-rest g c =
    let ns = c.args.row.now.boxes.blocks in keeps_both ns c.mended-top.new.row.boxes.blocks c.hung-root.new.row.boxes.blocks c.mended-top.ensures.rest c.hung-root.ensures.rest
