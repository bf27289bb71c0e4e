use Rattle.std.proofs.Common.{◌≡◌, false, ℕ, ◌-◌, ◌<◌, ◌≤◌}
use Rattle.cordyceps_many.specs.MultiList.{list_at}
use Rattle.cordyceps_many.specs.Threads.{is_in, without}
use Rattle.cordyceps_many.proofs.multi_list.MultiList.unlink_others.Given as goal

abbrev pub invariant-loop-i : goal.invariant-loop-i
invariant-loop-i g l = record {
  counted : l.count ≡ g.H.Rows.count;
  from : 0 < l.i;
  nodes : l.self.nodes ≡ l.initial.self.nodes;
  all : list_at 0 l.self.lists ≡ list_at 0 l.initial.self.lists;
  cut : (j : ℕ) → 0 < j → j < l.i → list_at j l.self.lists ≡ without l.at (list_at j l.initial.self.lists);
  out : (j : ℕ) → 0 < j → j < l.i → is_in l.at (list_at j l.self.lists) ≡ false;
  left : (j : ℕ) → l.i ≤ j → list_at j l.self.lists ≡ list_at j l.initial.self.lists;
}

abbrev pub decreases-loop-i : goal.decreases-loop-i
decreases-loop-i g l = l.count - l.i
