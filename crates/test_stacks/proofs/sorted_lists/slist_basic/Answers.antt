use Rattle.std.proofs.Common.{rules}
use Rattle.std.specs.Ordering.{nat_cmp}
use Rattle.std.specs.Cmp.{on_total}
use Rattle.std.proofs.lemmas.Cmp.{nat_cmp_total}
use Rattle.cordyceps_single.specs.Preorder.{preorder_from_total}
use Rattle.test_stacks.specs.declared.number.Number.{Number}
use Rattle.test_stacks.proofs.sorted_lists.slist_basic.Goals as goal

pub new_with_cmp-list-requires-clause-total : goal.new_with_cmp-list-requires-clause-total
new_with_cmp-list-requires-clause-total g c = (
  (λ x y. nat_cmp x.value y.value),
  record {
    lawful = preorder_from_total (on_total (λ (x : Number). x.value) nat_cmp_total);
    answers = λ x y r h. rw (← h.shows.0, ← h.shows.1) (search rules);
  },
)

pub takes_back-requires : goal.takes_back-requires
takes_back-requires g c = (
  search rules,
  (
    (λ x y. nat_cmp x.value y.value),
    record {
      lawful = preorder_from_total (on_total (λ (x : Number). x.value) nat_cmp_total);
      answers = λ x y r h. rw (← h.shows.0, ← h.shows.1) (search rules);
    },
  ),
)

pub new_by_key-list-requires-clause-same : goal.new_by_key-list-requires-clause-same
new_by_key-list-requires-clause-same g c = ((λ x. x.value), λ x k h. rw (← h.shows) (search rules))

pub takes_back-requires-2 : goal.takes_back-requires-2
takes_back-requires-2 g c = (search rules, ((λ x. x.value), λ x k h. rw (← h.shows) (search rules)))
