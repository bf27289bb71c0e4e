use Rattle.std.proofs.Common.{◌≡◌, true}
use Rattle.cordyceps_base.specs.BySpot.{HasSpot}
use Rattle.cordyceps_many.specs.MultiList.{list_at}
use Rattle.cordyceps_many.specs.Threads.{is_in}
use Rattle.test_many_lists.proofs.calls.spot_at.Given as goal

abbrev pub invariant-loop : goal.invariant-loop
invariant-loop g l = HasSpot l.lists.nodes l.spot × (is_in l.spot (list_at l.i l.lists.lists) ≡ true)
