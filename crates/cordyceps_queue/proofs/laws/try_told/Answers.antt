use Rattle.std.proofs.Common.{[], refl, subst}
use Rattle.cordyceps_queue.specs.Shared.Calls.{Consumes}
use Rattle.cordyceps_queue.proofs.SharedTheory.ToldFinds.{told_finds}
use Rattle.cordyceps_queue.proofs.laws.try_told.Goals as goal

pub returns : goal.returns
returns g c is =
    let had = c.rooms-rooms.ensures in
    told_finds c.args.receipt.told c.args.consumer.now c.learn.new.self c.try_dequeue.new.self had.knows.share had.held c.requires.more c.learn.ensures
    ([], c.learn.new.self, refl, subst (λ r. Consumes r c.learn.new.self c.try_dequeue.new.self) is c.try_dequeue.ensures.answer)
