use Rattle.std.proofs.Common.{sym, subst}
use Rattle.cordyceps_base.specs.BySpot.{HasSpot}
use Rattle.cordyceps_c_lists.specs.Lists.{Listed}
use Rattle.cordyceps_c_lists.proofs.Naming.{has_spot}
use Rattle.cordyceps_c_lists.proofs.list.List.next.Goals as goal

pub next-requires : goal.next-requires
next-requires c =
    let at = c.in_ok-at.at in
    subst (λ (l : Listed). HasSpot l.nodes at) (sym c.self.view_is) (has_spot c.args.self.now c.args.at at c.in_ok-at.ensures)
