use Rattle.std.proofs.Common.{◌≡◌, suc, true, MatchOption}
use Rattle.std.specs.Prelude.{IfSome}
use Rattle.cordyceps.specs.Spots.BySpot.{HasSpot}
use Rattle.cordyceps.specs.Spots.MultiList.{list_at}
use Rattle.cordyceps.specs.Spots.Threads.{is_in}
use Rattle.cordyceps_uses.specs.Keyed.{order, AreFrom, IsPassed}
use Rattle.cordyceps_uses.proofs.Placing.{to_go}
use Rattle.cordyceps_uses.proofs.ranked.place_by_rank.Given as goal

abbrev pub invariant-loop-at : goal.invariant-loop-at
invariant-loop-at g l = record {
  place : MatchOption l.at (AreFrom g.V.Ranked.rank (suc l.most) (order l.i l.map)) (λ p. IsPassed g.V.Ranked.rank l.map.nodes (list_at l.i l.map.lists) (suc l.most) p);
  there : IfSome l.at (λ p. HasSpot l.map.nodes p);
  in_list : IfSome l.at (λ p. is_in p (list_at l.i l.map.lists) ≡ true);
}

abbrev pub decreases-loop-at : goal.decreases-loop-at
decreases-loop-at g l = to_go (list_at l.i l.map.lists) l.at
