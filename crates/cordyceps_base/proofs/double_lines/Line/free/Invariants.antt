use Rattle.std.proofs.Common.{length}
use Rattle.cordyceps_base.proofs.double_lines.Line.free.Given as goal

abbrev pub decreases-loop-line : goal.decreases-loop-line
decreases-loop-line g l = length l.line
