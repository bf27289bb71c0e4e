use Rattle.std.proofs.Common.{rules}
use Rattle.cordyceps_stack.proofs.SharedTheory.StepTells.{told}
use Rattle.cordyceps_stack.proofs.SharedTheory.StepsKeep.{begins}
use Rattle.cordyceps_stack.proofs.shared.steps.begin.Goals as goal

pub load-requires : goal.load-requires
load-requires g c = let r = c.requires.room in (search rules, search rules, begins _ _ _ c.args._room r.0 c.requires.rest.idle r.1 c.requires.rest.named)

pub returns-clause-begun : goal.returns-clause-begun
returns-clause-begun g c = λ rs e. (told c.load.ensures) c.args._room rs e
