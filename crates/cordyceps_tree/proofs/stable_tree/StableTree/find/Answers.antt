use Rattle.std.proofs.Common.{None}
use Rattle.cordyceps_tree.proofs.Bounds.{none_at_all}
use Rattle.cordyceps_tree.proofs.stable_tree.StableTree.find.Goals as goal

pub returns-in-Some-clause-found : goal.returns-in-Some-clause-found
returns-in-Some-clause-found g c = λ cmp a by h. c.found.ensures.found cmp a by h (c.in-Some.ensures.bound cmp a by h)

pub returns-in-None-clause-found : goal.returns-in-None-clause-found
returns-in-None-clause-found g c = λ cmp a by h.
    none_at_all (g.O.Order.compares_by c.args.self.now.order) cmp by (g.met.O.Order.lawful c.args.self.now.order cmp by) c.args.value.now c.args.self.now.nodes None h.in_order (c.in-None.ensures.bound cmp a by h)
