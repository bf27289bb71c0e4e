use Rattle.std.proofs.Common.{Some, ap, sym, ◌∙◌}
use Rattle.cordyceps_shared.specs.Standings.{new_party}
use Rattle.cordyceps_queue.specs.Shared.Calls.{capacity}
use Rattle.cordyceps_queue.proofs.shared.calls.MpscQueue.new_with_stub.Goals as goal

pub returns : goal.returns
returns g c = c.in-Err.ensures.value_returned

pub returns-in-Ok-new : goal.returns-in-Ok-new
returns-in-Ok-new g c =
    let (_, party_is, wide) = c.in-Ok.ensures in
    (ap (λ v. Some v) c.in-Ok-new.ensures.kept, party_is ∙ sym (ap (λ q. new_party q.table c.args.rooms) c.queue.view_is), ap (λ q. capacity q.table) c.queue.view_is ∙ wide)
