use Rattle.std.proofs.Common.{rules}
use Rattle.cordyceps_queue.proofs.SharedTheory.BellKeeps.{dozes}
use Rattle.cordyceps_queue.proofs.shared.bell.sleep.Goals as goal

pub compare_exchange-requires : goal.compare_exchange-requires
compare_exchange-requires g c = (search rules, search rules, dozes _ _ _ c.requires.named)
