use Rattle.std.proofs.Common.{rules}
use Rattle.cordyceps_uses.proofs.tour.submit.Goals as goal

pub returns-clause-back : goal.returns-clause-back
returns-clause-back g c = search rules
