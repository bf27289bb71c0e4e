use Rattle.std.proofs.Common.{◌∷◌, ◌++◌, refl, sym, ◌∙◌, subst}
use Rattle.std.specs.Fn.{FnOnceReturnsAtMut}
use Rattle.cordyceps_base.specs.Nodes.{Nodes, spots}
use Rattle.cordyceps_base.specs.Spots.{index_of}
use Rattle.cordyceps_base.proofs.SpotsMemory.{first_at}
use Rattle.cordyceps_clock.proofs.Renewals.{wrote}
use Rattle.cordyceps_clock.proofs.renewing.change_at.Goals as goal

pub returns : goal.returns
returns g c =
    let s : Nodes g.row.T.Denot = c.args.list.now in let p = c.args.at in let w = c.change.new.arg2 in
    let (k, at) = c.requires.there in let v = c.get_mut.result.now in
    let o = wrote s (index_of p (spots s)) p v w (first_at (spots s) p k at) c.get_mut.ensures.value in (
      o.e,
      w,
      subst (λ v. FnOnceReturnsAtMut g.F.FnOnce c.args.change v c.change.result w) (sym o.had)
          (record { shown = _; shows = refl; left = _; met = c.change.ensures; leaves = refl }),
      o.changed,
    )

pub change-requires : goal.change-requires
change-requires g c =
    let s : Nodes g.row.T.Denot = c.args.list.now in let p = c.args.at in
    let (k, at) = c.requires.there in let v = c.get_mut.result.now in
    let o = wrote s (index_of p (spots s)) p v v (first_at (spots s) p k at) c.get_mut.ensures.value in
    let before = o.changed.before in let after = o.changed.after in
    c.requires.callable _
    (before, o.e.id, after, o.changed.was ∙ (λ i. before ++ (p, record { id = o.e.id; value = o.had i }) ∷ after))
