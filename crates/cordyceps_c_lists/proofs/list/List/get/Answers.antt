use Rattle.std.proofs.Common.{sym, subst}
use Rattle.cordyceps_base.specs.BySpot.{HasSpot, HoldsAt}
use Rattle.cordyceps_c_lists.specs.Lists.{Listed}
use Rattle.cordyceps_c_lists.proofs.Naming.{has_spot, held_named}
use Rattle.cordyceps_c_lists.proofs.list.List.get.Goals as goal

pub get-requires : goal.get-requires
get-requires c =
    let at = c.in_ok-spot.spot in
    subst (λ (l : Listed). HasSpot l.nodes at) (sym c.self.view_is) (has_spot c.args.self.now c.args.at at c.in_ok-spot.ensures)

pub returns : goal.returns
returns c =
    let spot = c.in_ok-spot.spot in let value = c.get.result.now in
    let holds = subst (λ (l : Listed). HoldsAt l.nodes spot value) c.self.view_is c.get.ensures in
    let (e, named, is) = held_named c.args.self.now c.args.at spot value c.in_ok-spot.ensures holds in (spot, e, named, is)
