use Rattle.std.proofs.Common.{[], ◌∷◌, ◌++◌, take, drop, ap, sym, ◌∙◌, append_assoc}
use Rattle.std.proofs.lemmas.List.{take-append-drop}
use Rattle.cordyceps_base.specs.Boxes.{box_addresses}
use Rattle.cordyceps_base.specs.Spots.{index_of}
use Rattle.cordyceps_tree.specs.Rows.{block_of}
use Rattle.cordyceps_tree.proofs.Parting.{parts}
use Rattle.cordyceps_tree.proofs.cutting.traded.Goals as goal

pub returns-clause-traded : goal.returns-clause-traded
returns-clause-traded g c = λ a b e.
    let ns = c.args.row.now.boxes.blocks in let p = c.args.at.ptr in let was = ap (λ z. z.blocks) c.replace-boxes.ensures.value in
    let u = parts ns p a b c.requires.distinct e in
    let back = c.cut_at-front.ensures.1 ∙ ap (λ ls. drop (index_of p (box_addresses ls)) ls) was ∙ u.back in
    let k = index_of p (box_addresses ns) in let more = c.args.one.boxes.blocks in
    let front = c.cut_at-front.ensures.0 ∙ ap (λ ls. take (index_of p (box_addresses ls)) ls) was in
    let rest = c.cut-old.ensures.1 ∙ ap (drop 1) back in
    record {
      front = take k ns;
      back = u.rest;
      alloc = u.node.1;
      block = block_of u.node;
      was = sym (take-append-drop k ns) ∙ (λ i. take k ns ++ u.back i) ∙ (λ i. take k ns ++ (u.at i, u.node.1, block_of u.node) ∷ u.rest);
      ahead = u.ahead;
      behind = u.behind;
      row = ap (λ z. z.blocks) c.replace-none.ensures.after ∙ c.null_comparable-others.ensures.0 ∙ c.distinct.ensures.0 ∙ c.join-2.ensures
          ∙ ap (λ z. z ++ c.cut-old.result.1.blocks) c.join.ensures
          ∙ (λ i. (front i ++ more) ++ rest i) ∙ append_assoc (take k ns) more u.rest;
      alone = c.cut-old.ensures.0 ∙ ap (take 1) back ∙ (λ i. (u.at i, u.node.1, block_of u.node) ∷ []);
    }
