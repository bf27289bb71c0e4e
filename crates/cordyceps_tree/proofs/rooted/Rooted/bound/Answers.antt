use Rattle.std.proofs.Common.{subst}
use Rattle.cordyceps_base.specs.Nodes.{Nodes}
use Rattle.cordyceps_tree.specs.Bounds.{IsBoundWhere}
use Rattle.cordyceps_tree.proofs.Saying.{place_reaches, bound_said}
use Rattle.cordyceps_tree.proofs.rooted.Rooted.bound.Goals as goal

pub spot_unless_null-requires : goal.spot_unless_null-requires
spot_unless_null-requires g c =
    (place_reaches (g.G.Guide.says c.args.guide.now) c.self.inside.row.boxes.blocks c.self.inside.root.ptr c.place_of.result c.self.invariant.tree c.place_of.ensures.place).testable

pub returns : goal.returns
returns g c =
    let says = g.G.Guide.says c.args.guide.now in
    subst (λ (n : Nodes g.row.T.Denot). IsBoundWhere says n c.spot_unless_null.result) c.self.view_is
    (bound_said says c.self.inside.row.boxes.blocks c.self.inside.root.ptr c.place_of.result c.self.invariant.tree c.place_of.ensures.place c.spot_unless_null.result c.spot_unless_null.ensures)
