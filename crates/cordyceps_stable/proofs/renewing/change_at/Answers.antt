use Rattle.std.proofs.Common.{◌∷◌, ◌++◌, refl, sym, ◌∙◌, subst}
use Rattle.std.specs.Fn.{FnOnceReturnsAtMut}
use Rattle.cordyceps_base.specs.Nodes.{Nodes, spots}
use Rattle.cordyceps_base.specs.Spots.{index_of}
use Rattle.cordyceps_base.proofs.SpotsMemory.{first_at}
use Rattle.cordyceps_stable.proofs.Parts.{item_split}
use Rattle.cordyceps_stable.proofs.renewing.change_at.Goals as goal

pub returns : goal.returns
returns g c =
    let s : Nodes g.row.T.Denot = c.args.chain.now in let p = c.args.at.ptr in let w = c.change.new.arg2 in
    let there = first_at (spots s) p c.requires.there.0 c.requires.there.1 in
    let (before, e, after, was, is, value) = item_split s (index_of p (spots s)) p c.get_at_mut.result.now w there c.get_at_mut.ensures.value in
    (before, e, w, after, was, is, subst (λ v. FnOnceReturnsAtMut g.F.FnOnce c.args.change v c.change.result w) (sym value) (record { shown = _; shows = refl; left = _; met = c.change.ensures; leaves = refl }))

pub change-requires : goal.change-requires
change-requires g c =
    let s : Nodes g.row.T.Denot = c.args.chain.now in let p = c.args.at.ptr in
    let there = first_at (spots s) p c.requires.there.0 c.requires.there.1 in
    let (before, e, after, was, is, value) = item_split s (index_of p (spots s)) p c.get_at_mut.result.now c.get_at_mut.result.now there c.get_at_mut.ensures.value in
    c.requires.callable _ (before, e.id, after, was ∙ (λ i. before ++ (p, record { id = e.id; value = value i }) ∷ after))
