use Rattle.cordyceps_queue.proofs.SharedTheory.ToldFinds.{empty_means_gone, holder_finds, told_finds}
use Rattle.cordyceps_queue.proofs.laws.told_finds.Goals as goal

pub returns-clause-gone : goal.returns-clause-gone
returns-clause-gone g c = empty_means_gone

pub returns-clause-holder : goal.returns-clause-holder
returns-clause-holder g c = holder_finds

pub returns-clause-told : goal.returns-clause-told
returns-clause-told g c = told_finds
