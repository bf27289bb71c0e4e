use Rattle.std.proofs.Common.{true, [], subst, arith}
use Rattle.cordyceps_base.specs.BySpot.{IsLast}
use Rattle.cordyceps_base.specs.Nodes.{Nodes}
use Rattle.cordyceps_tree.proofs.Saying.{root_down, root_solid, last_said}
use Rattle.cordyceps_tree.proofs.rooted.Rooted.last.Goals as goal

pub outermost-requires-clause-down : goal.outermost-requires-clause-down
outermost-requires-clause-down g c = ([], root_down c.self.inside.root.ptr c.self.inside.row.boxes.blocks true c.self.invariant.tree)

pub outermost-requires-clause-some : goal.outermost-requires-clause-some
outermost-requires-clause-some g c =
    let n = c.if-self-eq0.false in let long = c.self.invariant.long in
    root_solid c.self.inside.root.ptr c.self.inside.row.boxes.blocks c.self.invariant.tree (omega (arith, n, long))

pub returns : goal.returns
returns g c =
    let ns = c.self.inside.row.boxes.blocks in
    subst (λ (n : Nodes g.row.T.Denot). IsLast n c.spot_at.result) c.self.view_is
    (last_said ns c.outermost.result.ptr c.spot_at.result c.spot_at.ensures (c.outermost.ensures.end [] (root_down c.self.inside.root.ptr ns true c.self.invariant.tree)))
