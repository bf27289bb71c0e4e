use Rattle.std.proofs.Common.{true, false, arith}
use Rattle.cordyceps_queue.proofs.SharedTheory.GivingAll.{gives_later}
use Rattle.cordyceps_queue.proofs.shared.calls.MpscQueue.take_and_give_back_again.Goals as goal

pub loop-try-init : goal.loop-try-init
loop-try-init g c = record { seen = c.requires.seen; more = omega arith }

pub returns-then-take_and_give_back : goal.returns-then-take_and_give_back
returns-then-take_and_give_back g c =
    let i = c.loop-try.invariant in
    gives_later true c.args.party.now c.loop-try.party c.take_and_give_back.new.party i.seen i.more c.if-take_and_give_back.ensures.answer

pub loop-try-preserved : goal.loop-try-preserved
loop-try-preserved g c =
    let i = c.loop-try.invariant in
    let t = gives_later false c.args.party.now c.loop-try.party c.take_and_give_back.new.party i.seen i.more c.if-take_and_give_back.ensures.answer in
    record { seen = t.0; more = t.1 }
