use Rattle.std.proofs.Common.{length, ap, sym, ◌∙◌}
use Rattle.cordyceps_disk.specs.Queue.{Queue}
use Rattle.cordyceps_disk.proofs.Pairing.{long_waiting}
use Rattle.cordyceps_disk.proofs.queue.DiskQueue.len.Goals as goal

pub returns : goal.returns
returns g c = c.len.ensures ∙ sym (long_waiting c.self.inside.requests.nodes) ∙ ap (λ (q : Queue _). length q.waiting) c.self.view_is
