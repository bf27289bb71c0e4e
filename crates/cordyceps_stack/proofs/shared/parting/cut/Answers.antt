use Rattle.std.proofs.Common.{rules}
use Rattle.cordyceps_stack.proofs.SharedTheory.PartingKeeps.{splits}
use Rattle.cordyceps_stack.proofs.shared.parting.cut.Goals as goal

pub split_seat-requires : goal.split_seat-requires
split_seat-requires g c = let r = c.requires.rest in (search rules, search rules, splits _ _ _ r.0.named)
