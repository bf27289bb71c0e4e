use Rattle.std.proofs.Common.{[], sym, ap, ◌∙◌, subst}
use Rattle.cordyceps_channel.specs.Channels.{Receives}
use Rattle.cordyceps_channel.proofs.Received.{receives_then, absorbs_receives}
use Rattle.cordyceps_channel.proofs.Taking.{resting_party, still_resting, at_rest_after}
use Rattle.cordyceps_channel.proofs.taker.Taker.absorb.Goals as goal

pub invariant_of-self : goal.invariant_of-self
invariant_of-self g c = still_resting _ _ _ c.self.invariant (c.in-Some.queue, c.in-Some.party) c.absorb.new.party (sym c.take.ensures.value ∙ c.in-Some.is) c.absorb.ensures.table

pub returns-clause-received : goal.returns-clause-received
returns-clause-received g c =
    let u = c.in-Some.party in
    let w = c.absorb.new.party in
    let was = sym c.take.ensures.value ∙ c.in-Some.is in
    let p = resting_party _ _ _ c.self.invariant (c.in-Some.queue, u) was in
    let mine = subst (λ v. Receives [] v w) (sym p ∙ ap (λ v. v.party) c.self.view_is) (absorbs_receives u c.args.other w c.absorb.ensures c.requires.none) in
    subst (λ v. Receives [] c.args.self.now.party v) (at_rest_after _ _ _ c.self.invariant (c.in-Some.queue, u) c.in-Some.queue w was)
    (receives_then c.args.self.now.party c.rest.new.self.party w [] [] c.rest.ensures.stays.receives mine)
