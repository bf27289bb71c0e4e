use Rattle.std.proofs.Common.{rules}
use Rattle.cordyceps_uses.proofs.tour.rotate.Goals as goal

pub returns-in-Some : goal.returns-in-Some
returns-in-Some c = search rules
