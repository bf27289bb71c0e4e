use Rattle.cordyceps_stack.proofs.SharedTheory.ToldFinds.{empty_means_gone, told_finds}
use Rattle.cordyceps_stack.proofs.laws.told_finds.Goals as goal

pub returns-clause-gone : goal.returns-clause-gone
returns-clause-gone g c = empty_means_gone

pub returns-clause-told : goal.returns-clause-told
returns-clause-told g c = told_finds
