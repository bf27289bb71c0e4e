use Rattle.std.proofs.Common.{◌++◌, List, reverse, ap, ◌∙◌, subst}
use Rattle.std.proofs.lemmas.List.{map-id}
use Rattle.std.specs.Ordering.{nat_cmp}
use Rattle.cordyceps.specs.Elements.Element.{Element}
use Rattle.cordyceps.specs.Parties.Histories.{plain}
use Rattle.cordyceps.specs.Orders.Arrangement.{Represents}
use Rattle.cordyceps.specs.Transfers.History.{held}
use Rattle.cordyceps.specs.Transfers.Calls.{PartyOf}
use Rattle.cordyceps_uses.specs.declared.tasks.Task.{Task}
use Rattle.cordyceps_uses.proofs.tasks.schedule.Goals as goal

pub returns-clause-schedule : goal.returns-clause-schedule
returns-clause-schedule g c =
    let tasks = c.args.tasks in
    let none = ap (λ (u : PartyOf (Element Task)). held (plain u.seen)) c.in-Ok.ensures.0 in
    let all = c.push_all-party.ensures.held ∙ ap (λ (z : List (Element Task)). z ++ tasks) none in
    let came = c.close-came.ensures ∙ (map-id (reverse (held (plain c.push_all-party.result.seen))) ∙ ap (λ (z : List (Element Task)). reverse z) all) in
    let stands = subst (λ (z : List (Element Task)). Represents (λ (x y : Task). nat_cmp x.rank y.rank) c.from_stack_min.result.elements z) came c.from_stack_min.ensures in
    record { in_order = stands.in_order; as_arrived = stands.stable }
