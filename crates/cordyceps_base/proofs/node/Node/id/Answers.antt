use Rattle.std.proofs.Common.{ap, ◌∙◌}
use Rattle.cordyceps_base.proofs.node.Node.id.Goals as goal

pub returns : goal.returns
returns g c = ap (λ b. b.id) c.deref.ensures ∙ ap (λ e. e.id) c.self.view_is
