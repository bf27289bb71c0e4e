use Rattle.std.proofs.Common.{rules}
use Rattle.cordyceps_queue.proofs.SharedTheory.PoolKeeps.{refills}
use Rattle.cordyceps_queue.proofs.shared.pool.take.Goals as goal

pub swap-requires : goal.swap-requires
swap-requires g c = let r = c.requires.rest in let t = c.requires.table in
    (search rules, search rules, refills _ _ _ r.stage r.back r.hand r.named)
