use Rattle.cordyceps.proofs.Spots.ValueIndexes.{index_of_new}
use Rattle.cordyceps_uses.proofs.sessions.Sessions.new.Goals as goal

pub invariant_of-result : goal.invariant_of-result
invariant_of-result c = record { by_use = index_of_new 1 c.in_ok-map.map c.in_ok-map.ensures.nodes (c.in_ok-map.ensures.lists 1); by_deadline = index_of_new 2 c.in_ok-map.map c.in_ok-map.ensures.nodes (c.in_ok-map.ensures.lists 2) }
