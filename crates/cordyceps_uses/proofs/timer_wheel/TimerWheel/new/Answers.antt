use Rattle.std.proofs.Common.{[], arith, ap, length, ◌∙◌}
use Rattle.std.proofs.lemmas.List.{length-replicate}
use Rattle.cordyceps_uses.proofs.Turning.{empty_in_place}
use Rattle.cordyceps_uses.proofs.timer_wheel.TimerWheel.new.Goals as goal

pub invariant_of-result : goal.invariant_of-result
invariant_of-result g c = (
  omega (arith, ap length c.loop.invariant ∙ length-replicate c.loop.counter [], c.loop-test.false, c.requires),
  empty_in_place c.loop.counter 0 c.loop.empty.items c.loop.invariant,
)
