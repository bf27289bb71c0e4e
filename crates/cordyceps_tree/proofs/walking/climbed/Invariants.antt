use Rattle.std.proofs.Common.{length}
use Rattle.cordyceps_base.specs.Boxes.{box_addresses}
use Rattle.cordyceps_tree.specs.Rows.{hook_at}
use Rattle.cordyceps_tree.specs.Trees.{IsClimbed, climb}
use Rattle.cordyceps_tree.proofs.walking.climbed.Given as goal

abbrev pub invariant-loop-own : goal.invariant-loop-own
invariant-loop-own g l = IsClimbed (hook_at l.row.boxes.blocks) l.fn.root.ptr (box_addresses l.row.boxes.blocks) l.side l.fn.at.ptr l.up.ptr l.own

abbrev pub decreases-loop-own : goal.decreases-loop-own
decreases-loop-own g l = climb (hook_at l.row.boxes.blocks) (length (box_addresses l.row.boxes.blocks)) l.up.ptr
