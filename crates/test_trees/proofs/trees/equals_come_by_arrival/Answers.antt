use Rattle.std.proofs.Common.{rules, ℕ, ◌/◌}
use Rattle.std.specs.Ordering.{nat_cmp}
use Rattle.std.specs.Cmp.{on_total}
use Rattle.std.proofs.lemmas.Cmp.{nat_cmp_total}
use Rattle.cordyceps_single.specs.Preorder.{preorder_from_total}
use Rattle.test_trees.proofs.trees.equals_come_by_arrival.Goals as goal

pub new_with_cmp-tens-requires-clause-total : goal.new_with_cmp-tens-requires-clause-total
new_with_cmp-tens-requires-clause-total g c = (
  (λ x y. nat_cmp (x / 10) (y / 10)),
  record {
    lawful = preorder_from_total (on_total (λ (x : ℕ). x / 10) nat_cmp_total);
    answers = λ x y r h. rw (← h.shows.0, ← h.shows.1) (search rules);
  },
)

pub sorts-requires-3 : goal.sorts-requires-3
sorts-requires-3 g c = (
  search rules,
  (
    (λ x y. nat_cmp (x / 10) (y / 10)),
    record {
      lawful = preorder_from_total (on_total (λ (x : ℕ). x / 10) nat_cmp_total);
      answers = λ x y r h. rw (← h.shows.0, ← h.shows.1) (search rules);
    },
  ),
)

pub new_by_key-tens-requires-clause-same : goal.new_by_key-tens-requires-clause-same
new_by_key-tens-requires-clause-same g c = ((λ x. x / 10), λ x k h. rw (← h.shows) (search rules))

pub sorts-requires-4 : goal.sorts-requires-4
sorts-requires-4 g c = (search rules, ((λ x. x / 10), λ x k h. rw (← h.shows) (search rules)))
