use Rattle.std.proofs.Common.{◌≡◌, ◌-◌, ◌++◌, length, take, drop}
use Rattle.cordyceps_list.specs.IterMut.{elements, from, to, lender}
use Rattle.cordyceps_tables.specs.Walks.{bump_all}
use Rattle.cordyceps_tables.proofs.replay.walks.bump.Given as goal

abbrev pub invariant-loop-item : goal.invariant-loop-item
invariant-loop-item l = record {
  same_reference : lender l.items ≡ lender l.initial.items;
  end : to l.items ≡ length (elements l.items);
  told : take (from l.items) (elements l.items) ++ bump_all l.by (drop (from l.items) (elements l.items)) ≡ bump_all l.by l.fn.list;
}

abbrev pub decreases-loop-item : goal.decreases-loop-item
decreases-loop-item l = to l.items - from l.items
