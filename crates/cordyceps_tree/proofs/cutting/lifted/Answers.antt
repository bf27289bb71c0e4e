use Rattle.std.proofs.Common.{[], ◌∷◌, ◌++◌, take, drop, ap, sym, ◌∙◌}
use Rattle.std.proofs.lemmas.List.{take-append-drop}
use Rattle.cordyceps_base.specs.Boxes.{box_addresses}
use Rattle.cordyceps_base.specs.Spots.{index_of}
use Rattle.cordyceps_tree.specs.Rows.{block_of}
use Rattle.cordyceps_tree.proofs.Parting.{parts}
use Rattle.cordyceps_tree.proofs.cutting.lifted.Goals as goal

pub returns-clause-lifted : goal.returns-clause-lifted
returns-clause-lifted g c = λ a b e.
    let ns = c.args.row.now.boxes.blocks in let p = c.args.at.ptr in let was = ap (λ z. z.blocks) c.replace-boxes.ensures.value in
    let u = parts ns p a b c.requires.distinct e in
    let back = c.cut_at-front.ensures.1 ∙ ap (λ ls. drop (index_of p (box_addresses ls)) ls) was ∙ u.back in
    let k = index_of p (box_addresses ns) in
    record {
      front = take k ns;
      back = u.rest;
      alloc = u.node.1;
      block = block_of u.node;
      was = ap (λ z. z.blocks) c.replace-none.ensures.after ∙ c.null_comparable-others.ensures.0 ∙ c.distinct.ensures.0 ∙ c.join.ensures
          ∙ (λ i. (c.cut_at-front.ensures.0 ∙ ap (λ ls. take (index_of p (box_addresses ls)) ls) was) i ++ (c.cut-one.ensures.1 ∙ ap (drop 1) back) i);
      ahead = u.ahead;
      behind = u.behind;
      row = sym (take-append-drop k ns) ∙ (λ i. take k ns ++ u.back i) ∙ (λ i. take k ns ++ (u.at i, u.node.1, block_of u.node) ∷ u.rest);
      alone = c.cut-one.ensures.0 ∙ ap (take 1) back ∙ (λ i. (u.at i, u.node.1, block_of u.node) ∷ []);
    }
