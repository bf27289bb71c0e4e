use Rattle.std.proofs.Common.{refl, sym, ◌∙◌, subst}
use Rattle.cordyceps_uses.specs.Connections.{AllActiveSince, OpenConnections}
use Rattle.cordyceps_uses.proofs.Idlest.{all_since, first_read, none_since, popped, some_there}
use Rattle.cordyceps_uses.proofs.connections.Connections.expire.Goals as goal

pub returns-in_err-first-clause-expired : goal.returns-in_err-first-clause-expired
returns-in_err-first-clause-expired g c =
    let all = none_since c.args.since c.self.inside.list.nodes (sym c.iter.ensures.values ∙ c.in_err-first.ensures.steps.0) in
    rw c.from_residual.ensures (refl, subst (λ (t : OpenConnections _). AllActiveSince c.args.since t.nodes) c.self.view_is all)

pub returns-then-first-since-clause-expired : goal.returns-then-first-since-clause-expired
returns-then-first-since-clause-expired g c =
    let all = all_since c.args.since c.self.inside.list.nodes c.in_ok-first.first.now c.next.new.self (sym c.iter.ensures.values ∙ c.in_ok-first.ensures.steps) c.if-first-since.true c.self.invariant.in_order in
    (refl, subst (λ (t : OpenConnections _). AllActiveSince c.args.since t.nodes) c.self.view_is all)

pub returns-clause-expired : goal.returns-clause-expired
returns-clause-expired g c =
    let is = sym c.iter.ensures.values ∙ c.in_ok-first.ensures.steps in
    (popped _ _ _ c.pop_front.result c.self.inside.list.nodes c.pop_front.new.self.nodes _ c.args.self.now c.self.view_is c.pop_front.ensures.taken c.self.invariant (some_there c.self.inside.list.nodes _ _ is) c.pop_front.ensures.distinct (λ out t. first_read c.args.since _ _ out _ _ is t c.if-first-since.false)).1
