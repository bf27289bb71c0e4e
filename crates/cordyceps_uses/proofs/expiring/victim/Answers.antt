use Rattle.std.proofs.Common.{inl}
use Rattle.cordyceps_uses.proofs.States.{oldest}
use Rattle.cordyceps_uses.proofs.expiring.victim.Goals as goal

pub returns-in-Some-clause-oldest : goal.returns-in-Some-clause-oldest
returns-in-Some-clause-oldest g c = let x = c.in-Some.ensures.expired in record { entry = x.entry; value = x.value; holds = inl x.holds }

pub returns-in-None-clause-oldest : goal.returns-in-None-clause-oldest
returns-in-None-clause-oldest g c = oldest g.K.PartialEq.eq c.args.map.now c.lists_agree.ensures c.requires c.args.now c.in-None.ensures.expired c.front.result c.front.ensures.first
