use Rattle.std.proofs.Common.{rules, ◌/◌}
use Rattle.std.specs.Ordering.{nat_cmp}
use Rattle.std.specs.Cmp.{on_total}
use Rattle.std.proofs.lemmas.Cmp.{nat_cmp_total}
use Rattle.cordyceps_single.specs.Preorder.{preorder_from_total}
use Rattle.cordyceps.specs.Commands.Item.{Item}
use Rattle.cordyceps.specs.Sorteds.{Fits}
use Rattle.test_replay.proofs.Rests.{All-left}
use Rattle.test_replay.proofs.sorted_replays.replies.Goals as goal

pub new-sorteds-requires-clause-total : goal.new-sorteds-requires-clause-total
new-sorteds-requires-clause-total g c = (
  (λ x y. nat_cmp (x.value / 10) (y.value / 10)),
  record {
    lawful = preorder_from_total (on_total (λ (x : Item). x.value / 10) nat_cmp_total);
    answers = λ x y r h. rw (← h.shows.0, ← h.shows.1) (search rules);
  },
)

pub replay_sorted-first-requires-clause-total : goal.replay_sorted-first-requires-clause-total
replay_sorted-first-requires-clause-total g c = rw c.new-sorteds.ensures.function (
  (λ x y. nat_cmp (x.value / 10) (y.value / 10)),
  record {
    lawful = preorder_from_total (on_total (λ (x : Item). x.value / 10) nat_cmp_total);
    answers = λ x y r h. rw (← h.shows.0, ← h.shows.1) (search rules);
  },
)

pub replay_sorted-second-requires-clause-total : goal.replay_sorted-second-requires-clause-total
replay_sorted-second-requires-clause-total g c = rw (c.replay_sorted-first.ensures.function, c.new-sorteds.ensures.function) (
  (λ x y. nat_cmp (x.value / 10) (y.value / 10)),
  record {
    lawful = preorder_from_total (on_total (λ (x : Item). x.value / 10) nat_cmp_total);
    answers = λ x y r h. rw (← h.shows.0, ← h.shows.1) (search rules);
  },
)

pub replay_sorted-second-requires-clause-fit : goal.replay_sorted-second-requires-clause-fit
replay_sorted-second-requires-clause-fit g c =
    let first = c.replay_sorted-first in
    let answers = first.ensures.answers in
    All-left Fits answers.0 first.result.rest.items answers.1 (search rules)
