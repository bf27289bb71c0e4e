use Rattle.std.proofs.Common.{◌+◌, ◌%◌, ◌^◌, arith, ◌∙◌, rules}
use Rattle.cordyceps_list.specs.IterMut.{elements, from, to}
use Rattle.cordyceps_commands.specs.declared.item.Item.{Item}
use Rattle.cordyceps_base.proofs.Places.{length_with_value}
use Rattle.cordyceps_tables.proofs.Walks.{bump_more, bump_inside, bump_end}
use Rattle.cordyceps_tables.proofs.replay.walks.bump.Goals as goal

pub loop-item-smaller : goal.loop-item-smaller
loop-item-smaller c =
    let w : Item = record c.in-Some.item.now { value = (c.in-Some.item.now.value + c.args.by) % 2 ^ 64 } in
    let spans = rw c.in-Some.is at (c.next.follows.holds w) in
    let was = c.loop-item.items in
    let inside = bump_inside (elements was) (from was) (to was) c.in-Some.item.now c.in-Some.ensures.value in
    omega arith

pub loop-item-preserved : goal.loop-item-preserved
loop-item-preserved c =
    let w : Item = record c.in-Some.item.now { value = (c.in-Some.item.now.value + c.args.by) % 2 ^ 64 } in
    let spans = rw c.in-Some.is at (c.next.follows.holds w) in
    let was = c.loop-item.items in
    record {
      same_reference = spans.same_reference ∙ c.loop-item.invariant.same_reference;
      end = rw (spans.to_is, spans.elements_are, length_with_value) c.loop-item.invariant.end;
      told = rw (spans.from_is, spans.elements_are) (bump_more c.args.by (elements was) _ (from was) (to was) c.in-Some.item.now c.in-Some.ensures.value c.loop-item.invariant.told);
    }

pub returns-clause-kept : goal.returns-clause-kept
returns-clause-kept c =
    let spans = rw c.in_default.is at c.next.follows.holds-at-none in
    let was = c.loop-item.items in
    let all = bump_end c.args.by (elements was) _ (from was) (to was) c.loop-item.invariant.end c.in_default.ensures.value c.loop-item.invariant.told in
    let same = spans.same_reference ∙ c.loop-item.invariant.same_reference ∙ c.iter_mut-items.ensures.same_reference in
    let left = c.drop-items.ensures ∙ (spans.elements_are ∙ all) in
    search (rules, left, same)
