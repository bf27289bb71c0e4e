use Rattle.std.proofs.Common.{rules}
use Rattle.cordyceps_stack.proofs.SharedTheory.PoolKeeps.{refills}
use Rattle.cordyceps_stack.proofs.shared.pool.take.Goals as goal

pub swap-requires : goal.swap-requires
swap-requires g c = (search rules, search rules, refills _ _ _ c.requires.rest.idle c.requires.rest.named)
