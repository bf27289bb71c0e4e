use Rattle.std.proofs.Common.{rules}
use Rattle.cordyceps_queue.proofs.SharedTheory.UsesShare.{splits}
use Rattle.cordyceps_queue.proofs.shared.parting.cut.Goals as goal

pub split_seat-requires : goal.split_seat-requires
split_seat-requires g c = let r = c.requires.rest in (
  search rules,
  search rules,
  splits _ _ _ r.0.named r.0.stage r.0.back,
)
