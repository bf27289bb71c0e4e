use Rattle.std.proofs.Common.{ap, ◌∙◌}
use Rattle.cordyceps_c_timers.specs.declared.queue_handle.QueueHandle.{QueueHandle}
use Rattle.cordyceps_c_timers.proofs.queue_handle.QueueHandle.take.Goals as goal

pub into_raw-requires : goal.into_raw-requires
into_raw-requires c = let (x, is) = c.if-not-is_some.ensures.found in (x, ap (λ (h : QueueHandle). h.held) (c.replace-whole.ensures.value ∙ c.is_some.ensures.same) ∙ is)
