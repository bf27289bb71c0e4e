use Rattle.std.proofs.Common.{◌≡◌, rules, sym, ap, ◌∙◌, subst, inl, inr}
use Rattle.std.specs.Prelude.{Some}
use Rattle.cordyceps_queue.proofs.SharedTheory.PartyMoves.{moves_right}
use Rattle.cordyceps_queue.specs.Shared.Calls.{FindsBusy}
use Rattle.cordyceps_channel.specs.Channels.{Stays}
use Rattle.cordyceps_channel.proofs.Received.{moves_stays}
use Rattle.cordyceps_channel.proofs.Taking.{resting_party, at_rest_after}
use Rattle.cordyceps_channel.proofs.taker.Taker.hold.Goals as goal

pub returns-in-Ok-clause-stays : goal.returns-in-Ok-clause-stays
returns-in-Ok-clause-stays g c =
    let was : c.self.inside.resting ≡ Some (c.in-Some.queue, c.in-Some.party) = search rules in
    let p = resting_party _ _ _ c.self.invariant (c.in-Some.queue, c.in-Some.party) was in
    let w = c.in-Ok.consumer.party in
    let m = moves_right (λ x. x) c.in-Some.party w (inl c.in-Ok.ensures.answer.1) in
    subst (λ u. Stays u w) (sym p ∙ ap (λ v. v.party) c.self.view_is) (moves_stays c.in-Some.party w m)

pub returns-in-Err-clause-stays : goal.returns-in-Err-clause-stays
returns-in-Err-clause-stays g c =
    let was : c.self.inside.resting ≡ Some (c.in-Some.queue, c.in-Some.party) = search rules in
    let p = resting_party _ _ _ c.self.invariant (c.in-Some.queue, c.in-Some.party) was in
    let back = c.in-Err.back in
    let m = moves_right (λ x. x) c.in-Some.party back.1 (inr (inl c.in-Err.ensures.answer.1)) in
    subst (λ w. Stays c.args.self.now.party w) (at_rest_after _ _ _ c.self.invariant (c.in-Some.queue, c.in-Some.party) back.0 back.1 was)
    (subst (λ u. Stays u back.1) (sym p ∙ ap (λ v. v.party) c.self.view_is) (moves_stays c.in-Some.party back.1 m))

pub returns-in-Err-clause-busy : goal.returns-in-Err-clause-busy
returns-in-Err-clause-busy g c = λ _.
    let was : c.self.inside.resting ≡ Some (c.in-Some.queue, c.in-Some.party) = search rules in
    let p = resting_party _ _ _ c.self.invariant (c.in-Some.queue, c.in-Some.party) was in
    let back = c.in-Err.back in
    subst (λ w. FindsBusy c.args.self.now.party w) (at_rest_after _ _ _ c.self.invariant (c.in-Some.queue, c.in-Some.party) back.0 back.1 was)
    (subst (λ u. FindsBusy u back.1) (sym p ∙ ap (λ v. v.party) c.self.view_is) c.in-Err.ensures.answer.1)
