use Rattle.std.proofs.Common.{◌≡◌, length, ap, sym, ◌∙◌, arith}
use Rattle.cordyceps_uses.specs.Connections.{OpenConnections}
use Rattle.cordyceps_uses.proofs.Idlest.{popped}
use Rattle.cordyceps_uses.proofs.connections.Connections.make_room.Goals as goal

pub returns-clause-evicted : goal.returns-clause-evicted
returns-clause-evicted g c =
    let full : length c.self.inside.list.nodes ≡ c.self.inside.capacity = omega (arith, c.len.ensures, c.if-len-self.false, c.self.invariant.fits) in let view = c.self.view_is in
    (popped _ _ _ c.pop_front.result c.self.inside.list.nodes c.pop_front.new.self.nodes _ c.args.self.now view c.pop_front.ensures.taken c.self.invariant (λ none. omega (arith, ap length none, full, c.self.invariant.some)) c.pop_front.ensures.distinct
    (λ _ _. ap (λ (o : OpenConnections _). length o.nodes) (sym view) ∙ full ∙ ap (λ (o : OpenConnections _). o.capacity) view)).1
