-- Tasks in order.
use Rattle.std.specs.Ordering.{nat_cmp}
use Rattle.std.specs.List.Sorted.{IsSortedByKey, IsStableByKey}
use Rattle.cordyceps.specs.Elements.Element.{Elements}
use Rattle.cordyceps_uses.specs.declared.tasks.Task.{Task}

-- the tasks that arrived, by their ranks, and equals as they arrived
pub record IsSchedule (arrived s : Elements Task) : Type 0 where
  pub in_order : IsSortedByKey (λ e. e.value.rank) nat_cmp s
  pub as_arrived : IsStableByKey (λ e. e.value.rank) nat_cmp arrived s
