use Rattle.std.proofs.Common.{◌≡◌, List, [], ◌∷◌, refl, ◌∙◌}
use Rattle.cordyceps_base.specs.Nodes.{OwnedNode, nodes_of}
use Rattle.cordyceps_base.proofs.double_lines.Line.discard.Goals as goal

none : {X : Type 0} (ns : List (OwnedNode X)) → nodes_of ns ≡ [] → ns ≡ []
none [] e = refl
none (n ∷ ns) e = absurd cc

pub discard-requires : goal.discard-requires
discard-requires g c = none c.self.inside.row.blocks (c.self.view_is ∙ c.requires)
