use Rattle.std.proofs.Common.{◌<◌, length}
use Rattle.cordyceps_base.specs.Nodes.{elements, IsAt}
use Rattle.cordyceps_list.proofs.Found.{Unmet}
use Rattle.cordyceps_list.proofs.list.find.Given as goal

abbrev pub invariant-loop-index : goal.invariant-loop-index
invariant-loop-index g l = record { on : l.index < length l.chain → IsAt l.chain l.index l.address; unmet : Unmet l.id (elements l.chain) l.index }
