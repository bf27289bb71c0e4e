use Rattle.std.proofs.Common.{rules}
use Rattle.cordyceps_list.proofs.laws.pop_pushed_front.Goals as goal

pub returns-clause-shown : goal.returns-clause-shown
returns-clause-shown g c = search rules

pub returns-clause-answer : goal.returns-clause-answer
returns-clause-answer g c = search rules

pub returns-clause-restored : goal.returns-clause-restored
returns-clause-restored g c = search rules
