use Rattle.std.proofs.Common.{rules}
use Rattle.cordyceps_queue.proofs.SharedTheory.BellKeeps.{clears_bell}
use Rattle.cordyceps_queue.proofs.shared.bell.clear.Goals as goal

pub compare_exchange-requires : goal.compare_exchange-requires
compare_exchange-requires g c = (search rules, search rules, clears_bell _ _ _ c.requires.named)
