use Rattle.std.proofs.Common.{take, ◌∙◌}
use Rattle.cordyceps_base.proofs.LineTables.{no_lines}
use Rattle.cordyceps_base.proofs.double_lines.Lines.discard.Goals as goal

pub discard-requires : goal.discard-requires
discard-requires g c = let i = c.self.inside in no_lines (take i.count i.firsts) i.row.blocks c.self.invariant.lines (c.self.view_is ∙ c.requires)
