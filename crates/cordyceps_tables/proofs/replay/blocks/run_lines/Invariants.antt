use Rattle.std.proofs.Common.{◌≡◌, ◌+◌, ◌-◌, ◌≤◌, ◌++◌, length, drop, vec_capacity}
use Rattle.std.specs.List.{flat_map}
use Rattle.cordyceps_base.specs.Runs.{after, replies_to}
use Rattle.cordyceps_list.specs.Cursor.{lender}
use Rattle.cordyceps_commands.specs.Replies.{lines_of}
use Rattle.cordyceps_tables.specs.Blocks.{line_step, state_of, made_for_all, BlockFits}
use Rattle.cordyceps_tables.proofs.replay.blocks.run_lines.Given as goal

abbrev pub invariant-loop-line : goal.invariant-loop-line
invariant-loop-line l =
    let step = line_step l.list in
    let now = state_of l.lists l.list l.cursor in
    let first = state_of l.fn.lists l.list l.fn.cursor in
    let left = drop l.line-index l.lines in
    record {
      same_reference : lender l.cursor ≡ lender l.fn.cursor;
      fit : BlockFits left;
      nodes_are : l.nodes ≡ made_for_all left;
      room : length l.replies.items + (length l.lines - l.line-index) ≤ vec_capacity l.replies;
      state : after step now left ≡ after step first l.lines;
      told : flat_map lines_of l.replies.items ++ replies_to step now left ≡ flat_map lines_of l.fn.replies.items ++ replies_to step first l.lines;
    }
