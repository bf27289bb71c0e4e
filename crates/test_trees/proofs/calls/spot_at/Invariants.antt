use Rattle.cordyceps_base.specs.BySpot.{HasSpot}
use Rattle.test_trees.proofs.calls.spot_at.Given as goal

abbrev pub invariant-loop : goal.invariant-loop
invariant-loop g l = HasSpot l.tree.nodes l.at
