use Rattle.std.proofs.Common.{rules}
use Rattle.cordyceps_stack.proofs.SharedTheory.PartsJoin.{is_zero, looked_as}
use Rattle.cordyceps_stack.proofs.SharedTheory.StepTells.{told}
use Rattle.cordyceps_stack.proofs.SharedTheory.StepsKeep.{looks}
use Rattle.cordyceps_stack.proofs.shared.steps.is_empty.Goals as goal

pub load-requires : goal.load-requires
load-requires g c = (search rules, search rules, looks _ _ _ c.requires.rest.idle c.requires.rest.named)

pub returns-clause-answer : goal.returns-clause-answer
returns-clause-answer g c = looked_as _ _ _ _ (is_zero c.load.result) (told c.load.ensures).ends
