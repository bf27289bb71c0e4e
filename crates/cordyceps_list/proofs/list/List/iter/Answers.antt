use Rattle.std.proofs.Common.{ap, ◌∙◌}
use Rattle.cordyceps_base.specs.Element.{values}
use Rattle.cordyceps_list.proofs.list.List.iter.Goals as goal

pub returns : goal.returns
returns g c = c.over.ensures ∙ ap values c.self.view_is
