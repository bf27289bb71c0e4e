use Rattle.cordyceps.specs.Elements.Nodes.{spots}
use Rattle.cordyceps.specs.Spots.Spots.{index_of}
use Rattle.cordyceps_disk.proofs.Ahead.{Walked}
use Rattle.cordyceps_disk.proofs.placing.first_above.Given as goal

abbrev pub invariant-loop-before : goal.invariant-loop-before
invariant-loop-before g l = Walked l.sector l.requests.nodes l.fn.at l.place l.first

abbrev pub decreases-loop-before : goal.decreases-loop-before
decreases-loop-before g l = index_of l.place (spots l.requests.nodes)
