use Rattle.std.proofs.Common.{length, ap, sym, ◌∙◌}
use Rattle.cordyceps_heap.specs.Heap.{nodes_in}
use Rattle.cordyceps_c_timers.specs.Queues.{Queued, key_of}
use Rattle.cordyceps_c_timers.proofs.Arranging.{as_long}
use Rattle.cordyceps_c_timers.proofs.queue.Queue.len.Goals as goal

pub returns : goal.returns
returns c = c.len.ensures ∙ sym (as_long key_of (nodes_in c.self.inside.heap)) ∙ ap (λ (q : Queued). length q.nodes) c.self.view_is
