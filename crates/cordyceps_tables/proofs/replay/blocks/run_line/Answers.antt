use Rattle.std.proofs.Common.{refl, ◌∙◌}
use Rattle.cordyceps_list.specs.Cursor.{elements, place}
use Rattle.cordyceps_tables.specs.Tables.{element_of}
use Rattle.cordyceps_tables.specs.Blocks.{call_on, insert}
use Rattle.cordyceps_tables.specs.declared.replay.blocks.Side.TheVariants as sides
use Rattle.cordyceps_tables.proofs.Blocks.{alone_steps, sees_list, first_made, IsCall, call_steps, makes_nothing}
use Rattle.cordyceps_tables.proofs.replay.blocks.run_line.Goals as goal

pub returns-in-InsertAfter-clause-steps : goal.returns-in-InsertAfter-clause-steps
returns-in-InsertAfter-clause-steps c =
    let old = c.args.cursor.now in
    let table = c.args.lists.now in
    let item = c.in-InsertAfter.field-0 in
    let first = first_made c.args.nodes.now c.first_of.new.nodes c.first_of.result (element_of item) c.first_of.ensures (rw c.in-InsertAfter.is at c.requires.nodes) in
    let sees = sees_list c.args.list table (elements old) (place old) (λ s. insert sides.After s (place old) (element_of item)) c.requires.list in
    rw c.in-InsertAfter.is (alone_steps c.args.list table old c.insert.new.cursor _ _ c.insert.result sees (rw first at c.insert.ensures))

pub returns-in-InsertBefore-clause-steps : goal.returns-in-InsertBefore-clause-steps
returns-in-InsertBefore-clause-steps c =
    let old = c.args.cursor.now in
    let table = c.args.lists.now in
    let item = c.in-InsertBefore.field-0 in
    let first = first_made c.args.nodes.now c.first_of-in-InsertBefore.new.nodes c.first_of-in-InsertBefore.result (element_of item) c.first_of-in-InsertBefore.ensures (rw c.in-InsertBefore.is at c.requires.nodes) in
    let sees = sees_list c.args.list table (elements old) (place old) (λ s. insert sides.Before s (place old) (element_of item)) c.requires.list in
    rw c.in-InsertBefore.is (alone_steps c.args.list table old c.insert-in-InsertBefore.new.cursor _ _ c.insert-in-InsertBefore.result sees (rw first at c.insert-in-InsertBefore.ensures))

pub returns-in_default : goal.returns-in_default
returns-in_default c =
    let old = c.args.cursor.now in
    let table = c.args.lists.now in
    let d = c.in_default in
    let is : IsCall c.args.line = record {
      no_insert_after = d.not-InsertAfter;
      no_insert_before = d.not-InsertBefore;
      no_split_after = d.not-SplitAfter;
      no_split_before = d.not-SplitBefore;
      no_splice_after = d.not-SpliceAfter;
      no_splice_before = d.not-SpliceBefore;
    } in
    let sees = sees_list c.args.list table (elements old) (place old) (λ s. call_on s (place old) c.args.line) c.requires.list in
    record {
      steps = alone_steps c.args.list table old c.run_call.new.cursor _ _ c.run_call.result (call_steps c.args.list _ (place old) c.args.line is ∙ sees) c.run_call.ensures;
      nodes = rw (makes_nothing c.args.line is) refl;
    }
