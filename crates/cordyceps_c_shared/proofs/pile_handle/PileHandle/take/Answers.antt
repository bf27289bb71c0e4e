use Rattle.std.proofs.Common.{ap, ◌∙◌}
use Rattle.cordyceps_c_shared.specs.declared.pile_handle.PileHandle.{PileHandle}
use Rattle.cordyceps_c_shared.proofs.pile_handle.PileHandle.take.Goals as goal

pub into_raw-requires : goal.into_raw-requires
into_raw-requires c = let (x, is) = c.if-not-is_some.ensures.found in (x, ap (λ (h : PileHandle). h.held) (c.replace-whole.ensures.value ∙ c.is_some.ensures.same) ∙ is)
