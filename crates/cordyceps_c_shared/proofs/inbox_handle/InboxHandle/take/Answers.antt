use Rattle.std.proofs.Common.{ap, ◌∙◌}
use Rattle.cordyceps_c_shared.specs.declared.inbox_handle.InboxHandle.{InboxHandle}
use Rattle.cordyceps_c_shared.proofs.inbox_handle.InboxHandle.take.Goals as goal

pub into_raw-requires : goal.into_raw-requires
into_raw-requires c = let (x, is) = c.if-not-is_some.ensures.found in (x, ap (λ (h : InboxHandle). h.held) (c.replace-whole.ensures.value ∙ c.is_some.ensures.same) ∙ is)
