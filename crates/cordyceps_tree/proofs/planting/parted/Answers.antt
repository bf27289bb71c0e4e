use Rattle.std.proofs.Common.{◌≡◌, ◌++◌, take, drop, sym, ap, ◌∙◌, subst}
use Rattle.cordyceps_base.specs.Boxes.{box_addresses}
use Rattle.cordyceps_base.specs.Spots.{index_of}
use Rattle.cordyceps_tree.specs.Trees.{IsBeside}
use Rattle.cordyceps_tree.proofs.Parting.{left_parted, right_parted}
use Rattle.cordyceps_tree.proofs.planting.parted.Goals as goal

pub returns-then-side : goal.returns-then-side
returns-then-side g c = λ a b w e d.
    let ns = c.args.boxes.blocks in let p = c.args.up.ptr in let k = index_of p (box_addresses ns) in
    let u = right_parted ns p a b d e (subst (λ s. IsBeside p s a b) c.if-side.true w) in
    let one : c.join.result.blocks ≡ take k ns ++ take 1 (drop k ns) = c.join.ensures ∙ (λ i. c.cut_at-front.ensures.0 i ++ (c.cut-same.ensures.0 ∙ ap (take 1) c.cut_at-front.ensures.1) i) in
    let two : c.cut-same.result.1.blocks ≡ drop 1 (drop k ns) = c.cut-same.ensures.1 ∙ ap (drop 1) c.cut_at-front.ensures.1 in
    (ap box_addresses one ∙ u.0, ap box_addresses two ∙ u.1, u.2 ∙ sym (λ i. one i ++ two i))

pub returns : goal.returns
returns g c = λ a b w e d.
    let ns = c.args.boxes.blocks in let p = c.args.up.ptr in let k = index_of p (box_addresses ns) in
    let u = left_parted ns p a b d e (subst (λ s. IsBeside p s a b) c.if-side.false w) in
    let one : c.cut_at-front.result.0.blocks ≡ take k ns = c.cut_at-front.ensures.0 in
    let two : c.cut_at-front.result.1.blocks ≡ drop k ns = c.cut_at-front.ensures.1 in
    (ap box_addresses one ∙ u.0, ap box_addresses two ∙ u.1, u.2 ∙ sym (λ i. one i ++ two i))
