use Rattle.std.proofs.Common.{rules}
use Rattle.cordyceps_uses.proofs.tour.take_the_second.Goals as goal

pub returns : goal.returns
returns c = search rules
