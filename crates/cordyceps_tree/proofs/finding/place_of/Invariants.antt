use Rattle.std.proofs.Common.{◌+◌, ◌≤◌}
use Rattle.cordyceps_tree.specs.Places.{IsSearched}
use Rattle.cordyceps_tree.specs.Rows.{hook_at}
use Rattle.cordyceps_tree.specs.Trees.{height_at}
use Rattle.cordyceps_tree.proofs.finding.place_of.Given as goal

abbrev pub invariant-loop-at : goal.invariant-loop-at
invariant-loop-at g l = record {
  searched : IsSearched (g.G.Guide.says l.guide) l.row.boxes.blocks l.fn.root.ptr l.place l.at.ptr;
  few : g.C.Counter.counts → g.C.Counter.counted l.steps + height_at (hook_at l.row.boxes.blocks) l.at.ptr ≤ g.C.Counter.counted l.fn.steps + height_at (hook_at l.row.boxes.blocks) l.fn.root.ptr;
}

abbrev pub decreases-loop-at : goal.decreases-loop-at
decreases-loop-at g l = height_at (hook_at l.row.boxes.blocks) l.at.ptr
