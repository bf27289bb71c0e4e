use Rattle.std.proofs.Common.{◌≡◌}
use Rattle.cordyceps.specs.Spots.Walk.{nodes_from}
use Rattle.cordyceps_uses.specs.declared.job.Job.{Job}
use Rattle.cordyceps_uses.proofs.Best.{IsBest}
use Rattle.cordyceps_uses.proofs.tour.take_least.Given as goal

abbrev pub invariant-loop-at : goal.invariant-loop-at
invariant-loop-at l = (l.cursor.nodes ≡ l.fn.jobs) × IsBest (λ (x : Job). x.rank) l.fn.jobs l.cursor.spot l.best

abbrev pub decreases-loop-at : goal.decreases-loop-at
decreases-loop-at l = nodes_from l.fn.jobs l.cursor.spot
