use Rattle.std.proofs.Common.{rules}
use Rattle.cordyceps_uses.proofs.timer_wheel.TimerWheel.time.Goals as goal

pub returns : goal.returns
returns c = search rules
