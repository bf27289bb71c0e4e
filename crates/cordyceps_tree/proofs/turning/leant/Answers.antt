use Rattle.std.proofs.Common.{◌≡◌, true, not, sym, ap, ◌∙◌, subst, arith}
use Rattle.cordyceps_base.specs.Boxes.{box_addresses}
use Rattle.cordyceps_base.specs.declared.boxes.Address.{Address}
use Rattle.cordyceps_tree.specs.declared.hook.Hook.{Hook}
use Rattle.cordyceps_tree.specs.Rows.{hook_at}
use Rattle.cordyceps_tree.specs.Trees.{is_in, Reaches, kid, height_at}
use Rattle.cordyceps_tree.proofs.Reaching.{turn_at, turn_top, turn_inner, turn_outer}
use Rattle.cordyceps_tree.proofs.Leaning.{lean_turn, lean_twice, leant_once, leant_twice}
use Rattle.cordyceps_tree.proofs.turning.leant.Goals as goal

pub hook_of-low-requires : goal.hook_of-low-requires
hook_of-low-requires g c =
    let ns = c.args.row.now.boxes.blocks in let f = hook_at ns in let ps = box_addresses ns in let d = c.args.side in let p = c.args.at.ptr in let a = c.requires.comparable in let u = c.requires.tree in let v = lean_turn f ps p d u in
    turn_at f ps p d a v

pub hook_of-high-requires : goal.hook_of-high-requires
hook_of-high-requires g c =
    let ns = c.args.row.now.boxes.blocks in let f = hook_at ns in let ps = box_addresses ns in let d = c.args.side in let p = c.args.at.ptr in let a = c.requires.comparable in let u = c.requires.tree in let v = lean_turn f ps p d u in
    let top = c.kid-top.result in let read : top ≡ kid (f p) d = c.kid-top.ensures ∙ ap (λ (h : Hook). kid h d) c.hook_of-low.ensures in
    subst (λ (z : Address). is_in z.ptr ps ≡ true) (sym read) (turn_top f ps p d a v)

pub height_of-outer_height-requires : goal.height_of-outer_height-requires
height_of-outer_height-requires g c =
    let ns = c.args.row.now.boxes.blocks in let f = hook_at ns in let ps = box_addresses ns in let d = c.args.side in let p = c.args.at.ptr in let a = c.requires.comparable in let u = c.requires.tree in let v = lean_turn f ps p d u in
    let top = c.kid-top.result in let read : top ≡ kid (f p) d = c.kid-top.ensures ∙ ap (λ (h : Hook). kid h d) c.hook_of-low.ensures in
    let outer : c.kid-outer.result ≡ kid (f top.ptr) d = c.kid-outer.ensures ∙ ap (λ (h : Hook). kid h d) c.hook_of-high.ensures in
    let inner : c.kid-inner.result ≡ kid (f top.ptr) (not d) = c.kid-inner.ensures ∙ ap (λ (h : Hook). kid h (not d)) c.hook_of-high.ensures in
    subst (λ (z : Address). Reaches z.ptr ps) (sym outer) (turn_outer f ps p d a v top read)

pub height_of-inner_height-requires : goal.height_of-inner_height-requires
height_of-inner_height-requires g c =
    let ns = c.args.row.now.boxes.blocks in let f = hook_at ns in let ps = box_addresses ns in let d = c.args.side in let p = c.args.at.ptr in let a = c.requires.comparable in let u = c.requires.tree in let v = lean_turn f ps p d u in
    let top = c.kid-top.result in let read : top ≡ kid (f p) d = c.kid-top.ensures ∙ ap (λ (h : Hook). kid h d) c.hook_of-low.ensures in
    let outer : c.kid-outer.result ≡ kid (f top.ptr) d = c.kid-outer.ensures ∙ ap (λ (h : Hook). kid h d) c.hook_of-high.ensures in
    let inner : c.kid-inner.result ≡ kid (f top.ptr) (not d) = c.kid-inner.ensures ∙ ap (λ (h : Hook). kid h (not d)) c.hook_of-high.ensures in
    subst (λ (z : Address). Reaches z.ptr ps) (sym inner) (turn_inner f ps p d a v top read)

pub turned_twice-requires-clause-tree : goal.turned_twice-requires-clause-tree
turned_twice-requires-clause-tree g c =
    let ns = c.args.row.now.boxes.blocks in let f = hook_at ns in let ps = box_addresses ns in let d = c.args.side in let p = c.args.at.ptr in let a = c.requires.comparable in let u = c.requires.tree in let v = lean_turn f ps p d u in
    let top = c.kid-top.result in let read : top ≡ kid (f p) d = c.kid-top.ensures ∙ ap (λ (h : Hook). kid h d) c.hook_of-low.ensures in
    let outer : c.kid-outer.result ≡ kid (f top.ptr) d = c.kid-outer.ensures ∙ ap (λ (h : Hook). kid h d) c.hook_of-high.ensures in
    let inner : c.kid-inner.result ≡ kid (f top.ptr) (not d) = c.kid-inner.ensures ∙ ap (λ (h : Hook). kid h (not d)) c.hook_of-high.ensures in
    let ho : c.height_of-outer_height.result ≡ height_at f (kid (f top.ptr) d).ptr = c.height_of-outer_height.ensures ∙ ap (λ (z : Address). height_at f z.ptr) outer in
    let hi : c.height_of-inner_height.result ≡ height_at f (kid (f top.ptr) (not d)).ptr = c.height_of-inner_height.ensures ∙ ap (λ (z : Address). height_at f z.ptr) inner in
    let h = c.if-outer_height-inner_height.true in
    lean_twice f ps p d u top read (omega (arith, h, ho, hi))

pub turned-requires-clause-tree : goal.turned-requires-clause-tree
turned-requires-clause-tree g c =
    let ns = c.args.row.now.boxes.blocks in let f = hook_at ns in let ps = box_addresses ns in let d = c.args.side in let p = c.args.at.ptr in let a = c.requires.comparable in let u = c.requires.tree in let v = lean_turn f ps p d u in
    v

pub returns-then-outer_height-inner_height-clause-mended : goal.returns-then-outer_height-inner_height-clause-mended
returns-then-outer_height-inner_height-clause-mended g c =
    let ns = c.args.row.now.boxes.blocks in let f = hook_at ns in let ps = box_addresses ns in let d = c.args.side in let p = c.args.at.ptr in let a = c.requires.comparable in let u = c.requires.tree in let v = lean_turn f ps p d u in
    let top = c.kid-top.result in let read : top ≡ kid (f p) d = c.kid-top.ensures ∙ ap (λ (h : Hook). kid h d) c.hook_of-low.ensures in
    let outer : c.kid-outer.result ≡ kid (f top.ptr) d = c.kid-outer.ensures ∙ ap (λ (h : Hook). kid h d) c.hook_of-high.ensures in
    let inner : c.kid-inner.result ≡ kid (f top.ptr) (not d) = c.kid-inner.ensures ∙ ap (λ (h : Hook). kid h (not d)) c.hook_of-high.ensures in
    let ho : c.height_of-outer_height.result ≡ height_at f (kid (f top.ptr) d).ptr = c.height_of-outer_height.ensures ∙ ap (λ (z : Address). height_at f z.ptr) outer in
    let hi : c.height_of-inner_height.result ≡ height_at f (kid (f top.ptr) (not d)).ptr = c.height_of-inner_height.ensures ∙ ap (λ (z : Address). height_at f z.ptr) inner in
    let h = c.if-outer_height-inner_height.true in
    λ q s x e w o bx be two. leant_twice f q s d x p e w o bx be two top read (hook_at c.turned_twice.new.row.boxes.blocks) c.turned_twice.result.ptr (omega (arith, h, ho, hi)) (λ b y i z w2 o2. c.turned_twice.ensures.turned q s b y i z e w2 o2)

pub returns-clause-mended : goal.returns-clause-mended
returns-clause-mended g c =
    let ns = c.args.row.now.boxes.blocks in let f = hook_at ns in let ps = box_addresses ns in let d = c.args.side in let p = c.args.at.ptr in let a = c.requires.comparable in let u = c.requires.tree in let v = lean_turn f ps p d u in
    let top = c.kid-top.result in let read : top ≡ kid (f p) d = c.kid-top.ensures ∙ ap (λ (h : Hook). kid h d) c.hook_of-low.ensures in
    let outer : c.kid-outer.result ≡ kid (f top.ptr) d = c.kid-outer.ensures ∙ ap (λ (h : Hook). kid h d) c.hook_of-high.ensures in
    let inner : c.kid-inner.result ≡ kid (f top.ptr) (not d) = c.kid-inner.ensures ∙ ap (λ (h : Hook). kid h (not d)) c.hook_of-high.ensures in
    let ho : c.height_of-outer_height.result ≡ height_at f (kid (f top.ptr) d).ptr = c.height_of-outer_height.ensures ∙ ap (λ (z : Address). height_at f z.ptr) outer in
    let hi : c.height_of-inner_height.result ≡ height_at f (kid (f top.ptr) (not d)).ptr = c.height_of-inner_height.ensures ∙ ap (λ (z : Address). height_at f z.ptr) inner in
    let h = c.if-outer_height-inner_height.false in
    λ q s x e w o bx be two. leant_once f q s d x p e w o bx be two top read (hook_at c.turned.new.row.boxes.blocks) c.turned.result.ptr (omega (arith, h, ho, hi)) (λ b t m w2 o2. c.turned.ensures.turned q s b t m e w2 o2)
