use Rattle.std.proofs.Common.{arith}
use Rattle.cordyceps_base.proofs.LineWalks.{left_testable, line_left, none_left}
use Rattle.cordyceps_base.proofs.double_lines.entries.first_left.Goals as goal

pub is_null-requires : goal.is_null-requires
is_null-requires g c = left_testable c.loop-line.invariant

pub loop-line-preserved : goal.loop-line-preserved
loop-line-preserved g c = line_left c.loop-line.invariant c.if-is_null.ensures c.loop-line-test.true

pub returns-after-loop-line-clause-none : goal.returns-after-loop-line-clause-none
returns-after-loop-line-clause-none g c = λ null.
    let past = c.loop-line-test.false in let passed = c.loop-line.invariant.passed in
    none_left c.loop-line.invariant null (omega (arith, past, passed))
