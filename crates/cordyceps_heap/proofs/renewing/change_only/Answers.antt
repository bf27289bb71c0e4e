use Rattle.std.proofs.Common.{refl, ap, sym, subst}
use Rattle.std.specs.Fn.{FnOnceReturnsAtMut}
use Rattle.cordyceps_base.specs.Nodes.{Nodes, with_item}
use Rattle.cordyceps_stable.proofs.Arranged.{only_one}
use Rattle.cordyceps_heap.proofs.renewing.change_only.Goals as goal

pub returns : goal.returns
returns g c =
    let s : Nodes g.row.T.Denot = c.args.line.now in let w = c.change.new.arg2 in
    let (p, e, is, same) = only_one s c.requires.one c.front_mut.result.now c.front_mut.ensures.value in
    (p, e, w, is, ap (λ l. with_item l 0 w) is, subst (λ v. FnOnceReturnsAtMut g.F.FnOnce c.args.change v c.change.result w) (sym same) (record { shown = _; shows = refl; left = _; met = c.change.ensures; leaves = refl }))
