use Rattle.cordyceps.specs.Elements.Nodes.{spots}
use Rattle.cordyceps.specs.Spots.Spots.{AreDistinct}
use Rattle.test_programs.proofs.tours.takes_all.Given as goal

abbrev pub invariant-loop-wanted : goal.invariant-loop-wanted
invariant-loop-wanted g l = AreDistinct (spots l.jobs)
