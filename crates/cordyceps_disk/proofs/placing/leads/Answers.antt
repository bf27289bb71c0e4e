use Rattle.std.proofs.Common.{Some, cond, refl, ap, sym, ◌∙◌, arith, nat_lt}
use Rattle.cordyceps_disk.proofs.Ahead.{found_spot, leads_some, none_found, put_below, put_only}
use Rattle.cordyceps_disk.proofs.placing.leads.Goals as goal

pub returns-then-sector-head : goal.returns-then-sector-head
returns-then-sector-head g c n same = put_below c.args.head n c.args.requests.now.nodes (omega (arith, same, c.if-sector-head.true)) ∙ sym c.requires.ahead

pub get-requires : goal.get-requires
get-requires g c = found_spot c.args.head c.args.requests.now.nodes c.in-Some.first (sym c.requires.ahead ∙ c.in-Some.is)

pub returns-in-Some : goal.returns-in-Some
returns-in-Some g c n same =
    let is = leads_some c.args.head c.args.sector c.args.requests.now.nodes c.in-Some.first c.get.result.now (nat_lt c.args.sector c.get.result.now.request.sector) c.spots_are_distinct.ensures (sym c.requires.ahead ∙ c.in-Some.is) c.get.ensures refl (omega (arith, c.if-sector-head.false)) n same in
    is ∙ ap (λ o. cond (nat_lt c.args.sector c.get.result.now.request.sector) (Some n.0) o) (sym c.in-Some.is)

pub returns-in-None : goal.returns-in-None
returns-in-None g c n same =
    put_only c.args.head n c.args.requests.now.nodes (omega (arith, same, c.if-sector-head.false)) (none_found c.args.head c.args.requests.now.nodes (sym c.requires.ahead ∙ c.in-None.is))
