use Rattle.std.proofs.Common.{sym, ◌∙◌, arith}
use Rattle.cordyceps_clock.proofs.Puts.{found_end}
use Rattle.cordyceps_clock.proofs.buckets.nearest_end.Goals as goal

pub returns-then-is_some : goal.returns-then-is_some
returns-then-is_some c =
    found_end c.args.ends.now c.args.k c.loop-above.above c.index-ends-above.result c.type_inv.ends c.requires (omega (arith, c.loop-above-test.true)) c.loop-above.invariant.0 c.loop-above.invariant.1 (sym c.is_some.ensures ∙ c.if-is_some.true)
