use Rattle.std.proofs.Common.{subst}
use Rattle.cordyceps_base.specs.Boxes.{box_addresses}
use Rattle.cordyceps_tree.specs.Rows.{hook_at}
use Rattle.cordyceps_tree.specs.Trees.{IsUnsettled}
use Rattle.cordyceps_tree.proofs.HookRows.{keeps_both}
use Rattle.cordyceps_tree.proofs.Raising.{at_top, unsettled_reaches, if_not}
use Rattle.cordyceps_tree.proofs.settle.settled.Goals as goal

pub is_not_null-requires : goal.is_not_null-requires
is_not_null-requires g c =
    (unsettled_reaches (hook_at c.loop-at.row.boxes.blocks) (box_addresses c.args.row.now.boxes.blocks) c.loop-at.root.ptr c.loop-at.at.ptr c.requires.comparable c.loop-at.invariant.tree).testable

pub loop-at-preserved : goal.loop-at-preserved
loop-at-preserved g c =
    let s = c.raised-step in record {
      tree = subst (λ ps. IsUnsettled (hook_at s.new.row.boxes.blocks) ps s.result.root.ptr s.result.up.ptr) c.loop-at.invariant.rest.addresses (if_not _ s.result.is_done s.ensures.tree c.if-step.false);
      rest = keeps_both c.args.row.now.boxes.blocks c.loop-at.row.boxes.blocks s.new.row.boxes.blocks c.loop-at.invariant.rest s.ensures.rest;
    }

pub returns-clause-tree : goal.returns-clause-tree
returns-clause-tree g c =
    at_top (hook_at c.loop-at.row.boxes.blocks) (box_addresses c.args.row.now.boxes.blocks) c.loop-at.root.ptr c.loop-at.at.ptr c.loop-at.invariant.tree (if_not _ c.is_not_null.result c.is_not_null.ensures c.loop-at-test.false)
