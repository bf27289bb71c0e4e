use Rattle.std.proofs.Common.{◌≡◌, [], true, false, refl, sym, ◌∙◌, subst}
use Rattle.cordyceps_queue.specs.Shared.Calls.{GivesAllBack}
use Rattle.cordyceps_queue.proofs.SharedTheory.WaitingTries.{stays_giving, waits}
use Rattle.cordyceps_queue.proofs.shared.calls.MpscQueue.give_all_back_waiting.Goals as goal

not_both : true ≡ false → ⊥
not_both e = cc e

pub loop-init : goal.loop-init
loop-init g c = record { tries = []; failed = refl; same = (refl, refl); none = λ is. refl }

pub give_all_back-requires : goal.give_all_back-requires
give_all_back-requires g c = c.loop.invariant.same.0 ∙ c.requires

pub loop-preserved : goal.loop-preserved
loop-preserved g c =
    let u = c.loop.party in
    let w = c.give_all_back.new.party in
    let failed = subst (λ b. GivesAllBack b u w) c.if-give_all_back.false c.give_all_back.ensures.answer in
    waits (GivesAllBack false) c.args.party.now u w c.loop.invariant failed (stays_giving false u w failed)
    (λ is. not_both (sym (c.give_all_back.ensures.whole is) ∙ c.if-give_all_back.false))

pub returns-then-give_all_back-clause-whole : goal.returns-then-give_all_back-clause-whole
returns-then-give_all_back-clause-whole g c is =
    let w = c.give_all_back.new.party in
    subst (λ u. GivesAllBack true u w) (sym (c.loop.invariant.none is))
    (subst (λ b. GivesAllBack b c.loop.party w) c.if-give_all_back.true c.give_all_back.ensures.answer)
