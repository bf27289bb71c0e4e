use Rattle.std.proofs.Common.{sym, subst}
use Rattle.cordyceps_base.specs.Nodes.{spots}
use Rattle.cordyceps_base.specs.Spots.{AreDistinct, AreNullComparable}
use Rattle.cordyceps_map.specs.StableMap.{AreSound}
use Rattle.cordyceps_map.proofs.ShownNodes.{spots_shown, shown_has, has_shown}
use Rattle.cordyceps_map.proofs.stable_map.StableMap.lists_agree.Goals as goal

pub returns : goal.returns
returns g c = let nodes = c.self.inside.nodes.nodes in let a = c.lists_agree.ensures in subst (AreSound g.K.PartialEq.eq) c.self.view_is (record {
  distinct = subst AreDistinct (sym (spots_shown nodes)) a.distinct;
  comparable = subst AreNullComparable (sym (spots_shown nodes)) a.comparable;
  once = a.once;
  inside = λ i p h. shown_has nodes p (a.inside i p h);
  all = λ p h. a.all p (has_shown nodes p h);
  apart = c.self.invariant.apart;
})
