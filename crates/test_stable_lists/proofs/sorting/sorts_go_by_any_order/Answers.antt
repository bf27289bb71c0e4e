use Rattle.std.proofs.Common.{rules, ◌/◌}
use Rattle.std.specs.Ordering.{nat_cmp}
use Rattle.std.specs.Cmp.{on_total}
use Rattle.std.proofs.lemmas.Cmp.{nat_cmp_total}
use Rattle.cordyceps_single.specs.Preorder.{preorder_from_total}
use Rattle.test_stable_lists.specs.declared.keys.Key.{Key}
use Rattle.test_stable_lists.proofs.sorting.sorts_go_by_any_order.Goals as goal

pub sort_by-requires-clause-total : goal.sort_by-requires-clause-total
sort_by-requires-clause-total g c = (
  (λ x y. nat_cmp (x.value / 10) (y.value / 10)),
  record {
    lawful = preorder_from_total (on_total (λ (x : Key). x.value / 10) nat_cmp_total);
    answers = λ x y r h. rw (← h.shows.0, ← h.shows.1) (search rules);
  },
)

pub sort_by_key-requires-clause-same : goal.sort_by_key-requires-clause-same
sort_by_key-requires-clause-same g c = ((λ x. x.value / 10), λ x k h. rw (← h.shows) (search rules))
