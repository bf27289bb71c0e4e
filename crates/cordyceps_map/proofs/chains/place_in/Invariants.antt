use Rattle.std.proofs.Common.{length}
use Rattle.cordyceps_base.specs.Nodes.{spots}
use Rattle.cordyceps_many.specs.Entries.{value_at}
use Rattle.cordyceps_map.specs.Chains.{head_in}
use Rattle.cordyceps_map.proofs.Walking.{IsOnWay, steps}
use Rattle.cordyceps_map.proofs.chains.place_in.Given as goal

abbrev pub invariant-loop-at : goal.invariant-loop-at
invariant-loop-at g l = IsOnWay g.K.PartialEq.eq l.nodes.nodes (head_in l.buckets l.bucket) l.key l.before l.at

abbrev pub decreases-loop-at : goal.decreases-loop-at
decreases-loop-at g l = steps (value_at l.nodes.nodes) (length (spots l.nodes.nodes)) l.at
