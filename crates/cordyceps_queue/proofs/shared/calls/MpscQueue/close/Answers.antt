use Rattle.std.proofs.Common.{ap}
use Rattle.cordyceps_queue.proofs.shared.calls.MpscQueue.close.Goals.{in-Some, in-None}
use Rattle.cordyceps_queue.proofs.shared.calls.MpscQueue.close.Goals as goal

pub returns-clause-elements : goal.returns-clause-elements
returns-clause-elements g c = c.drain-elements.ensures

pub returns-clause-stub : goal.returns-clause-stub
returns-clause-stub g c =
    let kept = ap (λ q. q.stub) c.self.view_is in
    elim c.match-stub.branch [ in-Some w ↦ cc | in-None w ↦ cc ]
