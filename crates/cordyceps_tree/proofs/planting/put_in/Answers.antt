use Rattle.std.proofs.Common.{length, refl, sym, ap, ◌∙◌, subst, arith}
use Rattle.cordyceps_base.specs.Boxes.{box_addresses}
use Rattle.cordyceps_tree.specs.Rows.{hook_at, IsJoined}
use Rattle.cordyceps_tree.specs.Trees.{Reaches, IsUnsettled, before, after}
use Rattle.cordyceps_tree.proofs.Putting.{gap_beside, gap_order, put_nodes, put_few, put_in_row, put_reaches, put_unsettled}
use Rattle.cordyceps_tree.proofs.planting.put_in.Goals as goal

pub set_hook-requires : goal.set_hook-requires
set_hook-requires g c =
    let ns = c.args.row.now.boxes.blocks in let f = hook_at ns in let ps = box_addresses ns in let r = c.args.root.ptr in let q = c.args.place.up.ptr in let s = c.args.place.side in let u = c.requires.gap in let (e, alone) = c.requires.alone in
    let ms = c.joined.new.row.boxes.blocks in let at = c.args.one.at in
    let j : IsJoined ns (before u.steps) (after u.steps) at.ptr e ms = c.joined.ensures.joined e (before u.steps) (after u.steps) alone (gap_beside f r q s _ u.steps u.around) (gap_order u.steps ps u.order) in
    let d = c.joined.ensures.distinct in let k = c.joined.ensures.comparable in
    put_in_row ns ms r q s u at e j d k

pub hung-root-requires : goal.hung-root-requires
hung-root-requires g c =
    let ns = c.args.row.now.boxes.blocks in let f = hook_at ns in let ps = box_addresses ns in let r = c.args.root.ptr in let q = c.args.place.up.ptr in let s = c.args.place.side in let u = c.requires.gap in let (e, alone) = c.requires.alone in
    let ms = c.joined.new.row.boxes.blocks in let at = c.args.one.at in
    let j : IsJoined ns (before u.steps) (after u.steps) at.ptr e ms = c.joined.ensures.joined e (before u.steps) (after u.steps) alone (gap_beside f r q s _ u.steps u.around) (gap_order u.steps ps u.order) in
    let d = c.joined.ensures.distinct in let k = c.joined.ensures.comparable in
    subst (λ z. Reaches q z) (sym c.set_hook.ensures.rest.addresses) (put_reaches ns ms r q s u at e j d k)

pub settled-requires-clause-tree : goal.settled-requires-clause-tree
settled-requires-clause-tree g c =
    let ns = c.args.row.now.boxes.blocks in let f = hook_at ns in let ps = box_addresses ns in let r = c.args.root.ptr in let q = c.args.place.up.ptr in let s = c.args.place.side in let u = c.requires.gap in let (e, alone) = c.requires.alone in
    let ms = c.joined.new.row.boxes.blocks in let at = c.args.one.at in
    let j : IsJoined ns (before u.steps) (after u.steps) at.ptr e ms = c.joined.ensures.joined e (before u.steps) (after u.steps) alone (gap_beside f r q s _ u.steps u.around) (gap_order u.steps ps u.order) in
    let d = c.joined.ensures.distinct in let k = c.joined.ensures.comparable in
    let g1 = hook_at c.set_hook.new.row.boxes.blocks in let g2 = hook_at c.hung-root.new.row.boxes.blocks in
    subst (λ z. IsUnsettled g2 z c.hung-root.result.ptr q) (sym (c.hung-root.ensures.rest.addresses ∙ c.set_hook.ensures.rest.addresses))
    (put_unsettled ns ms r q s u at e j d k g1 g2 _ c.args.place.up c.args.root c.hung-root.result refl refl c.null.ensures c.null-2.ensures refl refl refl c.set_hook.ensures.set c.hung-root.ensures.hung)

pub settled-requires-clause-few : goal.settled-requires-clause-few
settled-requires-clause-few g c =
    let ns = c.args.row.now.boxes.blocks in let f = hook_at ns in let ps = box_addresses ns in let r = c.args.root.ptr in let q = c.args.place.up.ptr in let s = c.args.place.side in let u = c.requires.gap in let (e, alone) = c.requires.alone in
    let ms = c.joined.new.row.boxes.blocks in let at = c.args.one.at in
    let j : IsJoined ns (before u.steps) (after u.steps) at.ptr e ms = c.joined.ensures.joined e (before u.steps) (after u.steps) alone (gap_beside f r q s _ u.steps u.around) (gap_order u.steps ps u.order) in
    let d = c.joined.ensures.distinct in let k = c.joined.ensures.comparable in
    let few = c.requires.few in let a = put_few ns (before u.steps) (after u.steps) at.ptr e ms j in let b = ap length (c.hung-root.ensures.rest.addresses ∙ c.set_hook.ensures.rest.addresses) in
    omega (arith, few, a, b)

pub returns-clause-nodes : goal.returns-clause-nodes
returns-clause-nodes g c =
    λ e u alone. let ns = c.args.row.now.boxes.blocks in let f = hook_at ns in let ps = box_addresses ns in let r = c.args.root.ptr in let q = c.args.place.up.ptr in let s = c.args.place.side in
    let ms = c.joined.new.row.boxes.blocks in let at = c.args.one.at in
    let j : IsJoined ns (before u.steps) (after u.steps) at.ptr e ms = c.joined.ensures.joined e (before u.steps) (after u.steps) alone (gap_beside f r q s _ u.steps u.around) (gap_order u.steps ps u.order) in
    put_nodes ns (before u.steps) (after u.steps) at.ptr e ms _ j (c.settled.ensures.rest.nodes ∙ c.hung-root.ensures.rest.nodes ∙ c.set_hook.ensures.rest.nodes)
