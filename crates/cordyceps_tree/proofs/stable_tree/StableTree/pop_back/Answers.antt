use Rattle.cordyceps_stable.proofs.Valid.{last_out_keeps}
use Rattle.cordyceps_tree.proofs.Changing.{last_taken}
use Rattle.cordyceps_tree.proofs.stable_tree.StableTree.pop_back.Goals as goal

pub returns-in-Some-clause-taken : goal.returns-in-Some-clause-taken
returns-in-Some-clause-taken g c =
    (c.in-Some.at, last_taken c.args.self.now.nodes c.remove.new.self.nodes c.in-Some.at c.remove.result c.spots_are_distinct.ensures c.in-Some.ensures.last c.remove.ensures.taken, λ cmp a by h. c.remove.ensures.arrangement cmp a by h)

pub returns-in-Some-clause-kept : goal.returns-in-Some-clause-kept
returns-in-Some-clause-kept g c = last_out_keeps _ _ c.in-Some.at _ (last_taken c.args.self.now.nodes c.remove.new.self.nodes c.in-Some.at c.remove.result c.spots_are_distinct.ensures c.in-Some.ensures.last c.remove.ensures.taken)
