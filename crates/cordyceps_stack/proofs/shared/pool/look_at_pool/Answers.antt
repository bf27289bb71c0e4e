use Rattle.std.proofs.Common.{rules}
use Rattle.std.proofs.lemmas.Bool.{eqb-false}
use Rattle.cordyceps_stack.proofs.SharedTheory.PoolKeeps.{glances}
use Rattle.cordyceps_stack.proofs.SharedTheory.StepTells.{told}
use Rattle.cordyceps_stack.proofs.shared.pool.look_at_pool.Goals as goal

pub load-requires : goal.load-requires
load-requires g c = (search rules, search rules, glances _ _ _ c.requires.rest.idle c.requires.rest.named)

pub returns-clause-lacks : goal.returns-clause-lacks
returns-clause-lacks g c not = (told c.load.ensures).lacks (eqb-false c.load.result 0 not)
