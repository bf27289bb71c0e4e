use Rattle.std.proofs.Common.{◌≡◌, true}
use Rattle.std.specs.Prelude.{IfSome}
use Rattle.cordyceps_base.specs.BySpot.{HasSpot}
use Rattle.cordyceps_many.specs.MultiList.{list_at}
use Rattle.cordyceps_many.specs.Threads.{is_in}
use Rattle.test_many_lists.proofs.calls.marks_hold.Given as goal

abbrev pub invariant-loop-number : goal.invariant-loop-number
invariant-loop-number g l =
    IfSome l.at (λ p. HasSpot l.lists.nodes p × (is_in p (list_at 0 l.lists.lists) ≡ true))
