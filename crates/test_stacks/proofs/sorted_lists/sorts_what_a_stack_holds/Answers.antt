use Rattle.std.proofs.Common.{rules}
use Rattle.std.specs.Ordering.{nat_cmp}
use Rattle.std.specs.Cmp.{on_total}
use Rattle.std.proofs.lemmas.Cmp.{nat_cmp_total}
use Rattle.cordyceps_single.specs.Preorder.{preorder_from_total}
use Rattle.test_stacks.specs.declared.number.Number.{Number}
use Rattle.test_stacks.proofs.sorted_lists.sorts_what_a_stack_holds.Goals as goal

pub from_stack_with_cmp-by_function-requires-clause-total : goal.from_stack_with_cmp-by_function-requires-clause-total
from_stack_with_cmp-by_function-requires-clause-total g c = (
  (λ x y. nat_cmp x.value y.value),
  record {
    lawful = preorder_from_total (on_total (λ (x : Number). x.value) nat_cmp_total);
    answers = λ x y r h. rw (← h.shows.0, ← h.shows.1) (search rules);
  },
)
