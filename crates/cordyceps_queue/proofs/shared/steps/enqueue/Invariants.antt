use Rattle.std.specs.Prelude.{Some}
use Rattle.cordyceps_queue.proofs.shared.steps.enqueue.Given as goal

abbrev pub ghosts-begin : goal.ghosts-begin
ghosts-begin g a = record { item = Some a._item.now }
