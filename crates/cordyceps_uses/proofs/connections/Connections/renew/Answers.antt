use Rattle.std.proofs.Common.{refl, ap, sym, ◌∙◌, subst, arith}
use Rattle.cordyceps.specs.Spots.BySpot.{IsTaken}
use Rattle.cordyceps.proofs.Orders.Keys.{arranged_ascends, ascends_arranged}
use Rattle.cordyceps.proofs.Spots.Holding.{taken_length}
use Rattle.cordyceps_uses.specs.declared.connections.Connection.{Connection}
use Rattle.cordyceps_uses.specs.Connections.{active, OpenConnections}
use Rattle.cordyceps_uses.proofs.Idlest.{keeps}
use Rattle.cordyceps_uses.proofs.connections.Connections.renew.Goals as goal

pub invariant_of-self : goal.invariant_of-self
invariant_of-self g c =
    let was = c.self.inside.list.nodes in let new = c.update.new.self.nodes in let changed = c.update.ensures.changed in
    let again = changed.rearranged _ was refl (ascends_arranged active was c.self.invariant.in_order) in
    let long = taken_length new changed.others c.args.spot (record { id = changed.was.id; value = changed.value }) changed.put in
    keeps was new _ c.self.invariant (arranged_ascends active new _ again.arrangement) c.update.ensures.distinct (omega (arith, taken_length was changed.others c.args.spot changed.was changed.taken, long, c.self.invariant.fits))

pub returns-clause-renewed : goal.returns-clause-renewed
returns-clause-renewed g c =
    let changed = c.update.ensures.changed in let e = changed.was in let rest = changed.others in
    let returns = changed.called in let left = sym returns.leaves in
    let time = ap (λ (v : Connection _). v.last_active) left ∙ returns.met.0 in
    let peer = ap (λ (v : Connection _). v.peer) left ∙ returns.met.1 ∙ ap (λ (v : Connection _). v.peer) returns.shows in
    record {
      was = e;
      others = rest;
      found = subst (λ (t : OpenConnections _). IsTaken t.nodes c.args.spot e rest) c.self.view_is changed.taken;
      renewed = subst (λ (v : Connection _). IsTaken c.update.new.self.nodes c.args.spot (record { id = e.id; value = v }) rest) (λ i. record { last_active = time i; peer = peer i }) changed.put;
    }
