use Rattle.std.proofs.Common.{◌≡◌, [], ◌∷◌, ◌++◌, sym, ap, ◌∙◌, subst, append_assoc}
use Rattle.cordyceps_base.specs.Boxes.{box_addresses}
use Rattle.cordyceps_base.specs.Spots.{AreDistinct}
use Rattle.cordyceps_tree.proofs.Ones.{alone_of}
use Rattle.cordyceps_tree.proofs.planting.joined.Goals as goal

pub returns-clause-joined : goal.returns-clause-joined
returns-clause-joined g c = λ e a b alone w eq.
    let ns = c.args.row.now.boxes.blocks in
    let same : c.replace-boxes.result.blocks ≡ ns = ap (λ z. z.blocks) c.replace-boxes.ensures.value in
    let u = c.parted-front.ensures a b w (ap box_addresses same ∙ eq) (subst (λ z. AreDistinct (box_addresses z)) (sym same) c.requires.distinct) in
    let front = c.parted-front.result.0.blocks in let back = c.parted-front.result.1.blocks in
    let one = alone_of c.args.one.row.boxes.blocks c.args.one.at.ptr e alone in
    record {
      front = front;
      back = back;
      alloc = one.alloc;
      block = one.block;
      was = sym same ∙ u.2;
      ahead = u.0;
      behind = u.1;
      shows = one.shows;
      row = ap (λ z. z.blocks) c.replace-none.ensures.after ∙ c.null_comparable-all.ensures.0 ∙ c.distinct.ensures.0 ∙ c.join-2.ensures
          ∙ ap (λ z. z ++ back) (c.join.ensures ∙ ap (λ z. front ++ z) one.is)
          ∙ append_assoc front ((c.args.one.at.ptr, one.alloc, one.block) ∷ []) back;
    }
