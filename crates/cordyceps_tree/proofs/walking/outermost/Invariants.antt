use Rattle.std.proofs.Common.{◌≡◌, List}
use denote.RawPtr.{Ptr, InBlock}
use Rattle.cordyceps_base.specs.Boxes.{box_addresses}
use Rattle.cordyceps_tree.specs.Rows.{hook_at}
use Rattle.cordyceps_tree.specs.Trees.{kid, IsDown, height_at}
use Rattle.cordyceps_tree.proofs.walking.outermost.Given as goal

abbrev pub invariant-loop-at : goal.invariant-loop-at
invariant-loop-at g l = record {
  down : (far : List Ptr) → IsDown (hook_at l.row.boxes.blocks) (box_addresses l.row.boxes.blocks) l.side far l.fn.at.ptr → IsDown (hook_at l.row.boxes.blocks) (box_addresses l.row.boxes.blocks) l.side far l.at.ptr;
  solid : InBlock l.at.ptr;
  next : l.next ≡ kid (hook_at l.row.boxes.blocks l.at.ptr) l.side;
}

abbrev pub decreases-loop-at : goal.decreases-loop-at
decreases-loop-at g l = height_at (hook_at l.row.boxes.blocks) l.next.ptr
