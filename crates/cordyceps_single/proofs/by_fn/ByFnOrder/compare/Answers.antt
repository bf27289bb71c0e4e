use Rattle.std.proofs.Common.{refl, sym, subst}
use Rattle.cordyceps_single.specs.ByFn.{Computes}
use Rattle.cordyceps_single.proofs.by_fn.ByFnOrder.compare.Goals as goal

pub returns : goal.returns
returns g c =
    λ cmp h. (subst (λ f. Computes g.F.Fn f cmp) (sym c.self.view_is) h).answers c.args.first.now c.args.second.now c.call.result (record { first = c.args.first; second = c.args.second; shows = (refl, refl); says = record { met = c.call.ensures } })
