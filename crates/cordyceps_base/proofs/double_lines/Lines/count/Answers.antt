use Rattle.cordyceps_base.proofs.LineTables.{table_count}
use Rattle.cordyceps_base.proofs.double_lines.Lines.count.Goals as goal

pub returns : goal.returns
returns g c = table_count c.self.inside.firsts c.self.inside.count c.self.inside.row.blocks c.args.self.now c.self.invariant c.self.view_is
