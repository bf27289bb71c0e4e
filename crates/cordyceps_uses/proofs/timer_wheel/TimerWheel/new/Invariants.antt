use Rattle.std.proofs.Common.{◌≡◌, [], replicate}
use Rattle.cordyceps_uses.proofs.timer_wheel.TimerWheel.new.Given as goal

abbrev pub invariant-loop : goal.invariant-loop
invariant-loop g l = l.empty.items ≡ replicate l.counter []
