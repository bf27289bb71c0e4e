use Rattle.cordyceps_list.proofs.Asking.{may_ask_each}
use Rattle.test_lists.proofs.filters.takes_a_divisor.Goals as goal

pub next-requires : goal.next-requires
next-requires g c =
    let filter = c.drain_filter-filter.ensures in
    rw (filter.place, filter.elements) (may_ask_each _ _ _ (λ q k d inside shown shows. rw shows (c.requires k d inside)))
