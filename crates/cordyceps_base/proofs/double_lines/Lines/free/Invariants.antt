use Rattle.std.proofs.Common.{length}
use Rattle.cordyceps_base.proofs.double_lines.Lines.free.Given as goal

abbrev pub decreases-loop-lines : goal.decreases-loop-lines
decreases-loop-lines g l = length l.lines
