use Rattle.std.proofs.Common.{rules}
use Rattle.cordyceps_stack.proofs.SharedTheory.StepsKeep.{loads_again}
use Rattle.cordyceps_stack.proofs.shared.steps.load.Goals as goal

pub load-requires : goal.load-requires
load-requires g c = let r = c.requires.ready.1 in (search rules, search rules, loads_again _ _ _ c.args._room r.doing r.named)
