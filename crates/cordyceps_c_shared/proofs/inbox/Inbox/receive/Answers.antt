use Rattle.std.proofs.Common.{Err, refl, subst}
use Rattle.cordyceps_base.specs.Element.{Element}
use Rattle.cordyceps_queue.specs.declared.cores.steps.TryDequeueError.{TryDequeueError}
use Rattle.cordyceps_queue.specs.Shared.Calls.{Dequeues}
use Rattle.cordyceps_c_base.specs.declared.carried.Carried.{Carried}
use Rattle.cordyceps_c_shared.proofs.inbox.Inbox.receive.Goals as goal

pub returns-in-Err-Empty-clause-tried : goal.returns-in-Err-Empty-clause-tried
returns-in-Err-Empty-clause-tried c =
    let found = c.in-Err-Empty in let party = c.try_dequeue.new.party in
    (_, (refl, subst (λ (why : TryDequeueError). Dequeues {E = Element Carried} (Err why) c.args.self.now.party party) found.field-0-is found.ensures.answer), c.keep_at_most-in-Err-Empty.ensures)
