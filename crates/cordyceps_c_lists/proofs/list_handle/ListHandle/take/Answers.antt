use Rattle.std.proofs.Common.{ap, ◌∙◌}
use Rattle.cordyceps_c_lists.specs.declared.list_handle.ListHandle.{ListHandle}
use Rattle.cordyceps_c_lists.proofs.list_handle.ListHandle.take.Goals as goal

pub into_raw-requires : goal.into_raw-requires
into_raw-requires c = let (x, is) = c.if-not-is_some.ensures.found in (x, ap (λ (h : ListHandle). h.held) (c.replace-whole.ensures.value ∙ c.is_some.ensures.same) ∙ is)
