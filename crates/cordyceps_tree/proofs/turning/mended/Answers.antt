use Rattle.std.proofs.Common.{◌≡◌, sym, ap, ◌∙◌, subst, arith}
use Rattle.cordyceps_base.specs.Boxes.{box_addresses}
use Rattle.cordyceps_tree.specs.declared.hook.Hook.{Hook}
use Rattle.cordyceps_tree.specs.Rows.{hook_at}
use Rattle.cordyceps_tree.specs.Trees.{Reaches, high, Wrote, height_at}
use Rattle.cordyceps_tree.proofs.Leaning.{flip_hangs, flip_mended, left_known, right_known, still_mended, mend_at, mend_left, mend_right, mend_fits, mend_low, mend_lean_left, mend_lean_right}
use Rattle.cordyceps_tree.proofs.turning.mended.Goals as goal

pub hook_of-hook-requires : goal.hook_of-hook-requires
hook_of-hook-requires g c =
    let ns = c.args.row.now.boxes.blocks in let f = hook_at ns in let ps = box_addresses ns in let p = c.args.at.ptr in let a = c.requires.comparable in let u = c.requires.tree in
    mend_at f ps p u

pub height_of-left-requires : goal.height_of-left-requires
height_of-left-requires g c =
    let ns = c.args.row.now.boxes.blocks in let f = hook_at ns in let ps = box_addresses ns in let p = c.args.at.ptr in let a = c.requires.comparable in let u = c.requires.tree in
    let is : c.hook_of-hook.result ≡ f p = c.hook_of-hook.ensures in
    subst (λ (h : Hook). Reaches h.left.ptr ps) (sym is) (mend_left f ps p u a)

pub height_of-right-requires : goal.height_of-right-requires
height_of-right-requires g c =
    let ns = c.args.row.now.boxes.blocks in let f = hook_at ns in let ps = box_addresses ns in let p = c.args.at.ptr in let a = c.requires.comparable in let u = c.requires.tree in
    let is : c.hook_of-hook.result ≡ f p = c.hook_of-hook.ensures in
    subst (λ (h : Hook). Reaches h.right.ptr ps) (sym is) (mend_right f ps p u a)

pub overflow_add-right : goal.overflow_add-right
overflow_add-right g c =
    let ns = c.args.row.now.boxes.blocks in let f = hook_at ns in let ps = box_addresses ns in let p = c.args.at.ptr in let a = c.requires.comparable in let u = c.requires.tree in
    let is : c.hook_of-hook.result ≡ f p = c.hook_of-hook.ensures in
    let hl : c.height_of-left.result ≡ height_at f (f p).left.ptr = c.height_of-left.ensures ∙ ap (λ (h : Hook). height_at f h.left.ptr) is in
    let hr : c.height_of-right.result ≡ height_at f (f p).right.ptr = c.height_of-right.ensures ∙ ap (λ (h : Hook). height_at f h.right.ptr) is in
    let fits = mend_fits f ps p u in let f0 = fits.0 in let f1 = fits.1 in
    omega (arith, hr, f1)

pub overflow_add-left : goal.overflow_add-left
overflow_add-left g c =
    let ns = c.args.row.now.boxes.blocks in let f = hook_at ns in let ps = box_addresses ns in let p = c.args.at.ptr in let a = c.requires.comparable in let u = c.requires.tree in
    let is : c.hook_of-hook.result ≡ f p = c.hook_of-hook.ensures in
    let hl : c.height_of-left.result ≡ height_at f (f p).left.ptr = c.height_of-left.ensures ∙ ap (λ (h : Hook). height_at f h.left.ptr) is in
    let hr : c.height_of-right.result ≡ height_at f (f p).right.ptr = c.height_of-right.ensures ∙ ap (λ (h : Hook). height_at f h.right.ptr) is in
    let fits = mend_fits f ps p u in let f0 = fits.0 in let f1 = fits.1 in
    omega (arith, hl, f0)

pub leant-requires-clause-tree : goal.leant-requires-clause-tree
leant-requires-clause-tree g c =
    let ns = c.args.row.now.boxes.blocks in let f = hook_at ns in let ps = box_addresses ns in let p = c.args.at.ptr in let a = c.requires.comparable in let u = c.requires.tree in
    let is : c.hook_of-hook.result ≡ f p = c.hook_of-hook.ensures in
    let hl : c.height_of-left.result ≡ height_at f (f p).left.ptr = c.height_of-left.ensures ∙ ap (λ (h : Hook). height_at f h.left.ptr) is in
    let hr : c.height_of-right.result ≡ height_at f (f p).right.ptr = c.height_of-right.ensures ∙ ap (λ (h : Hook). height_at f h.right.ptr) is in
    let fits = mend_fits f ps p u in let f0 = fits.0 in let f1 = fits.1 in
    let h = c.if-right-left.true in mend_lean_left f ps p u (omega (arith, h, hl, hr))

pub leant-requires-then-left-right-clause-tree : goal.leant-requires-then-left-right-clause-tree
leant-requires-then-left-right-clause-tree g c =
    let ns = c.args.row.now.boxes.blocks in let f = hook_at ns in let ps = box_addresses ns in let p = c.args.at.ptr in let a = c.requires.comparable in let u = c.requires.tree in
    let is : c.hook_of-hook.result ≡ f p = c.hook_of-hook.ensures in
    let hl : c.height_of-left.result ≡ height_at f (f p).left.ptr = c.height_of-left.ensures ∙ ap (λ (h : Hook). height_at f h.left.ptr) is in
    let hr : c.height_of-right.result ≡ height_at f (f p).right.ptr = c.height_of-right.ensures ∙ ap (λ (h : Hook). height_at f h.right.ptr) is in
    let fits = mend_fits f ps p u in let f0 = fits.0 in let f1 = fits.1 in
    let h = c.if-left-right.true in mend_lean_right f ps p u (omega (arith, h, hl, hr))

pub over-above-requires : goal.over-above-requires
over-above-requires g c =
    let ns = c.args.row.now.boxes.blocks in let f = hook_at ns in let ps = box_addresses ns in let p = c.args.at.ptr in let a = c.requires.comparable in let u = c.requires.tree in
    let is : c.hook_of-hook.result ≡ f p = c.hook_of-hook.ensures in
    let hl : c.height_of-left.result ≡ height_at f (f p).left.ptr = c.height_of-left.ensures ∙ ap (λ (h : Hook). height_at f h.left.ptr) is in
    let hr : c.height_of-right.result ≡ height_at f (f p).right.ptr = c.height_of-right.ensures ∙ ap (λ (h : Hook). height_at f h.right.ptr) is in
    let fits = mend_fits f ps p u in let f0 = fits.0 in let f1 = fits.1 in
    (omega (arith, hl, f0), omega (arith, hr, f1))

pub set_hook-requires : goal.set_hook-requires
set_hook-requires g c =
    let ns = c.args.row.now.boxes.blocks in let f = hook_at ns in let ps = box_addresses ns in let p = c.args.at.ptr in let a = c.requires.comparable in let u = c.requires.tree in
    let is : c.hook_of-hook.result ≡ f p = c.hook_of-hook.ensures in
    mend_at f ps p u

pub returns-then-right-left-clause-mended : goal.returns-then-right-left-clause-mended
returns-then-right-left-clause-mended g c =
    let ns = c.args.row.now.boxes.blocks in let f = hook_at ns in let ps = box_addresses ns in let p = c.args.at.ptr in let a = c.requires.comparable in let u = c.requires.tree in
    let is : c.hook_of-hook.result ≡ f p = c.hook_of-hook.ensures in
    let hl : c.height_of-left.result ≡ height_at f (f p).left.ptr = c.height_of-left.ensures ∙ ap (λ (h : Hook). height_at f h.left.ptr) is in
    let hr : c.height_of-right.result ≡ height_at f (f p).right.ptr = c.height_of-right.ensures ∙ ap (λ (h : Hook). height_at f h.right.ptr) is in
    let fits = mend_fits f ps p u in let f0 = fits.0 in let f1 = fits.1 in
    let h = c.if-right-left.true in let low = mend_low f ps p u in let l0 = low.0 in
    λ q s x y w o bx by. let kx = left_known f q s x p y w in let ky = right_known f q s x p y w in
    c.leant.ensures.mended q s x y w o bx by (omega (arith, h, hl, hr, l0, kx, ky))

pub returns-then-left-right-clause-mended : goal.returns-then-left-right-clause-mended
returns-then-left-right-clause-mended g c =
    let ns = c.args.row.now.boxes.blocks in let f = hook_at ns in let ps = box_addresses ns in let p = c.args.at.ptr in let a = c.requires.comparable in let u = c.requires.tree in
    let is : c.hook_of-hook.result ≡ f p = c.hook_of-hook.ensures in
    let hl : c.height_of-left.result ≡ height_at f (f p).left.ptr = c.height_of-left.ensures ∙ ap (λ (h : Hook). height_at f h.left.ptr) is in
    let hr : c.height_of-right.result ≡ height_at f (f p).right.ptr = c.height_of-right.ensures ∙ ap (λ (h : Hook). height_at f h.right.ptr) is in
    let fits = mend_fits f ps p u in let f0 = fits.0 in let f1 = fits.1 in
    let h = c.if-left-right.true in let low = mend_low f ps p u in let l1 = low.1 in
    λ q s x y w o bx by. let kx = left_known f q s x p y w in let ky = right_known f q s x p y w in
    flip_mended f q s x p y (hook_at c.leant-then-left-right.new.row.boxes.blocks) c.leant-then-left-right.result.ptr (c.leant-then-left-right.ensures.mended q s y x (flip_hangs f q s x p y w) o by bx (omega (arith, h, hl, hr, l1, kx, ky)))

pub returns-clause-mended : goal.returns-clause-mended
returns-clause-mended g c =
    let ns = c.args.row.now.boxes.blocks in let f = hook_at ns in let ps = box_addresses ns in let p = c.args.at.ptr in let a = c.requires.comparable in let u = c.requires.tree in
    let is : c.hook_of-hook.result ≡ f p = c.hook_of-hook.ensures in
    let hl : c.height_of-left.result ≡ height_at f (f p).left.ptr = c.height_of-left.ensures ∙ ap (λ (h : Hook). height_at f h.left.ptr) is in
    let hr : c.height_of-right.result ≡ height_at f (f p).right.ptr = c.height_of-right.ensures ∙ ap (λ (h : Hook). height_at f h.right.ptr) is in
    let fits = mend_fits f ps p u in let f0 = fits.0 in let f1 = fits.1 in
    let h1 = c.if-right-left.false in let h2 = c.if-left-right.false in
    let next : c.high-next.result ≡ high (f p) c.over-above.result = c.high-next.ensures ∙ ap (λ (h : Hook). high h c.over-above.result) is in
    λ q s x y w o bx by. let kx = left_known f q s x p y w in let ky = right_known f q s x p y w in let ov = c.over-above.ensures in
    still_mended f q s x p y w (hook_at c.set_hook.new.row.boxes.blocks) c.over-above.result o bx by (subst (λ z. Wrote f p z (hook_at c.set_hook.new.row.boxes.blocks)) next c.set_hook.ensures.set) (omega (arith, ov, hl, hr, kx, ky)) (omega (arith, h1, h2, hl, hr, kx, ky)) (omega (arith, h1, h2, hl, hr, kx, ky))
