use Rattle.std.proofs.Common.{[], ◌∷◌, ◌++◌, ap, sym, ◌∙◌}
use Rattle.cordyceps_many.proofs.rows.joined.Goals as goal

pub returns-clause-added : goal.returns-clause-added
returns-clause-added g c =
    let b = c.into_block.result.value in record {
      alloc = c.one-one.result.1;
      block = b;
      off = c.into_block.ensures.off;
      shows = c.into_block.ensures.shows;
      row = ap (λ z. z.blocks) c.replace-none.ensures.after ∙ c.null_comparable-all.ensures.0 ∙ c.distinct.ensures.0 ∙ c.join.ensures
          ∙ (λ i. (c.replace-boxes.ensures.value i).blocks ++ (c.one-one.ensures ∙ ap (λ v. (c.one-one.result.0.ptr, c.one-one.result.1, v) ∷ []) c.from_box.ensures) i)
          ∙ ap (λ q. c.args.row.now.boxes.blocks ++ (q, c.one-one.result.1, b) ∷ []) (sym c.spot_at.ensures);
    }
