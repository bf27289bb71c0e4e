use Rattle.std.proofs.Common.{◌∙◌}
use Rattle.cordyceps_queue.proofs.SharedTheory.GivingAll.{gives_all, never_fails}
use Rattle.cordyceps_queue.proofs.shared.calls.MpscQueue.take_and_give_back.Goals as goal

pub returns-clause-answer : goal.returns-clause-answer
returns-clause-answer g c = gives_all _ _ c.give_back.result c.args.party.now c.refill.new.party c.give_back.new.party c.refill.ensures.answer c.rooms-rooms.ensures.count c.give_back.ensures.answer

pub returns-clause-whole : goal.returns-clause-whole
returns-clause-whole g c is =
    let seen = c.refill.ensures.answer.0 in
    never_fails _ c.give_back.result c.refill.new.party c.give_back.new.party c.give_back.ensures.answer (c.refill.ensures.whole is) (c.give_back.ensures.whole (seen.0.share ∙ is))
