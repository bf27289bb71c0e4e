use Rattle.cordyceps_queue.proofs.SharedTheory.GivingAll.{gives_later}
use Rattle.cordyceps_queue.proofs.shared.calls.MpscQueue.give_all_back.Goals as goal

pub returns-else-take_and_give_back-clause-answer : goal.returns-else-take_and_give_back-clause-answer
returns-else-take_and_give_back-clause-answer g c =
    let first = c.if-take_and_give_back.ensures.answer in
    gives_later c.take_and_give_back_again.result c.args.party.now c.take_and_give_back.new.party c.take_and_give_back_again.new.party first.0 first.1 c.take_and_give_back_again.ensures
