use Rattle.std.proofs.Common.{sym, ap, ◌∙◌, subst, inr}
use Rattle.std.specs.Prelude.{Some}
use Rattle.cordyceps_queue.proofs.SharedTheory.PartyMoves.{moves_right}
use Rattle.cordyceps_channel.specs.Channels.{Stays}
use Rattle.cordyceps_channel.proofs.Received.{moves_stays}
use Rattle.cordyceps_channel.proofs.Taking.{consumer_party}
use Rattle.cordyceps_channel.specs.Takers.{taker_of}
use Rattle.cordyceps_channel.proofs.taker.Taker.rest.Goals as goal

pub returns-clause-stays : goal.returns-clause-stays
returns-clause-stays g c =
    let u = c.in-Some.consumer.party in
    let w = c.release.result.1 in
    let p = consumer_party _ c.self.inside.resting c.in-Some.consumer (sym c.take.ensures.value ∙ c.in-Some.is) in
    let m = moves_right (λ x. x) u w (inr (inr c.release.ensures.1)) in
    subst (λ v. Stays c.args.self.now.party v) (λ i. (taker_of (sym c.take.ensures.after i) (Some c.release.result)).party)
    (subst (λ v. Stays v w) (sym p ∙ ap (λ v. v.party) c.self.view_is) (moves_stays u w m))
