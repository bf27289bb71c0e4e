use Rattle.std.proofs.Common.{refl, sym, subst}
use Rattle.cordyceps_single.specs.ByKey.{HasKey}
use Rattle.cordyceps_single.proofs.Keys.{keys_tell}
use Rattle.cordyceps_single.proofs.by_key.ByKeyOrder.compare.Goals as goal

pub returns : goal.returns
returns g c =
    λ cmp by.
    let has = subst (λ f. HasKey g.F.Fn f by.key) (sym c.self.view_is) by.returns in
    keys_tell g.K.Ord.cmp by.key cmp c.args.first.now c.args.second.now c.call.result c.call-2.result c.cmp.result
    (has c.args.first.now c.call.result (record { shown = c.args.first; shows = refl; says = record { met = c.call.ensures } }))
    (has c.args.second.now c.call-2.result (record { shown = c.args.second; shows = refl; says = record { met = c.call-2.ensures } }))
    c.cmp.ensures by.compares
