use Rattle.std.proofs.Common.{◌≡◌, sym, ap, ◌∙◌, subst}
use Rattle.cordyceps_channel.specs.Channels.{Stays}
use Rattle.cordyceps_channel.proofs.Received.{moves_nothing, moves_stays, stays_then}
use Rattle.cordyceps_channel.proofs.Taking.{resting_party, still_resting, at_rest_after}
use Rattle.cordyceps_channel.proofs.taker.Taker.give_all.Goals as goal

pub invariant_of-self : goal.invariant_of-self
invariant_of-self g c = still_resting _ _ _ c.self.invariant (c.in-Some.queue, c.in-Some.party) c.give_all_back-gave.new.party (sym c.take.ensures.value ∙ c.in-Some.is) c.give_all_back-gave.ensures.nothing.table

pub returns-clause-stays : goal.returns-clause-stays
returns-clause-stays g c =
    let u = c.in-Some.party in
    let w = c.give_all_back-gave.new.party in
    let was = sym c.take.ensures.value ∙ c.in-Some.is in
    let p = resting_party _ _ _ c.self.invariant (c.in-Some.queue, u) was in
    let mine = subst (λ v. Stays v w) (sym p ∙ ap (λ v. v.party) c.self.view_is) (moves_stays u w (moves_nothing u w c.give_all_back-gave.ensures.nothing)) in
    subst (λ v. Stays c.args.self.now.party v) (at_rest_after _ _ _ c.self.invariant (c.in-Some.queue, u) c.in-Some.queue w was)
    (stays_then c.args.self.now.party c.rest.new.self.party w c.rest.ensures.stays mine)

pub returns-clause-gave : goal.returns-clause-gave
returns-clause-gave g c = λ gave.
    let w = c.give_all_back-gave.new.party in
    let was = sym c.take.ensures.value ∙ c.in-Some.is in
    subst (λ v. v.rooms ≡ 0) (at_rest_after _ _ _ c.self.invariant (c.in-Some.queue, c.in-Some.party) c.in-Some.queue w was) (c.give_all_back-gave.ensures.gave gave).1
