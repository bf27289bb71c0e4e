use Rattle.cordyceps.specs.Elements.Nodes.{spots}
use Rattle.cordyceps.specs.Spots.Spots.{AreDistinct}
use Rattle.test_programs.proofs.tours.ranked.Given as goal

abbrev pub invariant-loop-rank : goal.invariant-loop-rank
invariant-loop-rank g l = AreDistinct (spots l.jobs)
