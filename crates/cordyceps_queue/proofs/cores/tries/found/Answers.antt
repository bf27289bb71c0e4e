use Rattle.std.proofs.Common.{Ok, ap, sym, ◌∙◌}
use Rattle.cordyceps_queue.specs.Cores.Alone.{found_of}
use Rattle.cordyceps_queue.proofs.cores.tries.found.Goals as goal

pub returns-in-Ok-Out : goal.returns-in-Ok-Out
returns-in-Ok-Out g c = sym (ap found_of (c.in-Ok-Out.is ∙ ap (λ a. Ok a) c.in-Ok-Out.field-0-is))

pub returns-in-Ok-Empty : goal.returns-in-Ok-Empty
returns-in-Ok-Empty g c = sym (ap found_of (c.in-Ok-Empty.is ∙ ap (λ a. Ok a) c.in-Ok-Empty.field-0-is))
