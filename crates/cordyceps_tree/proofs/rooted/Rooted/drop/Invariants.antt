use Rattle.std.proofs.Common.{length}
use Rattle.cordyceps_tree.proofs.rooted.Rooted.drop.Given as goal

abbrev pub decreases-loop-self : goal.decreases-loop-self
decreases-loop-self g l = length l.self
