use Rattle.std.proofs.Common.{◌-◌}
use Rattle.cordyceps_base.specs.DoubleLines.{IsLeft}
use Rattle.cordyceps_base.proofs.double_lines.entries.first_left.Given as goal

abbrev pub invariant-loop-line : goal.invariant-loop-line
invariant-loop-line g l = IsLeft l.firsts l.count l.line l.at.ptr l.rest.blocks

abbrev pub decreases-loop-line : goal.decreases-loop-line
decreases-loop-line g l = l.count - l.line
