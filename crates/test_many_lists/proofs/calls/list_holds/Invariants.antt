use Rattle.std.proofs.Common.{◌≡◌, true}
use Rattle.std.specs.Prelude.{IfSome}
use Rattle.cordyceps_base.specs.BySpot.{HasSpot}
use Rattle.cordyceps_many.specs.MultiList.{list_at}
use Rattle.cordyceps_many.specs.Threads.{is_in}
use Rattle.test_many_lists.proofs.calls.list_holds.Given as goal

abbrev pub invariant-loop-number : goal.invariant-loop-number
invariant-loop-number g l =
    IfSome l.at (λ p. HasSpot l.lists.nodes p × (is_in p (list_at l.i l.lists.lists) ≡ true))

abbrev pub invariant-loop-number-2 : goal.invariant-loop-number-2
invariant-loop-number-2 g l =
    (goal.iterator-loop-number-2 g).can_next l.number-iterator
    × (goal.iterator-loop-number-2 g).is_finite l.number-iterator
    × IfSome l.at (λ p. HasSpot l.lists.nodes p × (is_in p (list_at l.i l.lists.lists) ≡ true))
