use Rattle.std.proofs.Common.{sym, ◌∙◌}
use Rattle.cordyceps_base.proofs.LineWalks.{left_testable, node_there, node_left, node_shown}
use Rattle.cordyceps_base.proofs.double_lines.entries.EntriesIterator.next.Goals as goal

pub is_null-requires : goal.is_null-requires
is_null-requires g c = left_testable c.first_left-line.ensures.left

pub get-block-requires : goal.get-block-requires
get-block-requires g c = node_there c.first_left-line.ensures.left c.if-is_null.ensures

pub invariant_of-self-2 : goal.invariant_of-self-2
invariant_of-self-2 g c =
    let block = c.get-block in let after = c.after_first-self-inside in
    node_left c.first_left-line.ensures.left c.if-is_null.ensures block.result.now block.ensures
    after.result.now.blocks after.ensures

pub returns-clause-steps : goal.returns-clause-steps
returns-clause-steps g c =
    let block = c.get-block in let after = c.after_first-self-inside in
    sym c.self.view_is
    ∙ node_shown c.first_left-line.ensures.left c.if-is_null.ensures block.result.now block.ensures
    after.result.now.blocks after.ensures
