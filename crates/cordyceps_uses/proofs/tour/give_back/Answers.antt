use Rattle.std.proofs.Common.{rules}
use Rattle.cordyceps_uses.proofs.tour.give_back.Goals as goal

pub returns : goal.returns
returns c = search rules
