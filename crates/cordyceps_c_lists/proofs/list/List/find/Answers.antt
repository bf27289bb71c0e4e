use Rattle.std.proofs.Common.{MatchOption, subst}
use Rattle.cordyceps_c_lists.specs.Lists.{IsAt, Listed, NamesNone}
use Rattle.cordyceps_c_lists.proofs.Naming.{finds}
use Rattle.cordyceps_c_lists.proofs.list.List.find.Goals as goal

pub returns : goal.returns
returns c =
    let at = c.args.at in
    subst (λ (l : Listed). MatchOption c.find.result (NamesNone l at) (IsAt l at)) c.self.view_is
    (finds c.self.inside.tickets c.self.inside.list at c.find.result c.self.invariant c.spots_are_distinct.ensures c.find.ensures)
