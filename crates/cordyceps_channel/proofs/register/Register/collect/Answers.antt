use Rattle.std.proofs.Common.{◌∙◌, subst}
use Rattle.cordyceps_channel.specs.Channels.{IsRegister}
use Rattle.cordyceps_channel.proofs.Registering.{one_fewer, absorbs_last}
use Rattle.cordyceps_channel.proofs.register.Register.collect.Goals as goal

pub take-requires : goal.take-requires
take-requires g c =
    let z = c.args.queue.now.table in
    let r = subst (λ hs. IsRegister z c.loop-home.self.party hs) c.in-Some.ensures.items c.loop-home.invariant in
    (one_fewer z c.pop.new.self.items 0 c.in-Some.home r.places).1.free

pub absorb-requires : goal.absorb-requires
absorb-requires g c =
    let z = c.args.queue.now.table in
    let r = subst (λ hs. IsRegister z c.loop-home.self.party hs) c.in-Some.ensures.items c.loop-home.invariant in
    (r.table, c.in-Some-take.ensures.1.table ∙ (one_fewer z c.pop.new.self.items 0 c.in-Some.home r.places).1.table)

pub loop-home-preserved : goal.loop-home-preserved
loop-home-preserved g c =
    let z = c.args.queue.now.table in
    let r = subst (λ hs. IsRegister z c.loop-home.self.party hs) c.in-Some.ensures.items c.loop-home.invariant in
    absorbs_last z c.loop-home.self.party c.in-Some-take.party c.absorb.new.party c.pop.new.self.items c.in-Some.home r c.in-Some-take.ensures.1 c.absorb.ensures
