use Rattle.std.proofs.Common.{IsSome, refl, sym, subst}
use Rattle.cordyceps_base.specs.BySpot.{HasSpot}
use Rattle.cordyceps_c_base.specs.declared.tickets.Ticket.{Ticket}
use Rattle.cordyceps_c_lists.specs.Lists.{IsAt, Listed}
use Rattle.cordyceps_c_lists.proofs.Naming.{named_at, slotted}
use Rattle.cordyceps_c_lists.proofs.list.List.ticket_at.Goals as goal

pub get-requires : goal.get-requires
get-requires c = subst (λ (l : Listed). HasSpot l.nodes c.args.spot) (sym c.self.view_is) c.requires

pub index-requires : goal.index-requires
index-requires c =
    let (n, at) = slotted c.self.inside.tickets c.self.inside.list c.args.spot c.get.result.now c.self.invariant c.get.ensures in
    subst IsSome (sym at) refl

pub returns : goal.returns
returns c =
    let spot = c.args.spot in let item = c.get.result.now in let entry = c.index.result.now in
    let k : Ticket = record { collection = c.self.inside.tickets.collection; slot = item.slot; number = entry.number } in
    subst (λ (l : Listed). IsAt l k spot) c.self.view_is
    (named_at c.self.inside.tickets c.self.inside.list spot item entry c.self.invariant c.spots_are_distinct.ensures c.get.ensures c.index.ensures)
