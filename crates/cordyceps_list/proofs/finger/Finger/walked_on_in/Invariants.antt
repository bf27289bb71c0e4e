use Rattle.std.proofs.Common.{◌≡◌, ◌+◌, ◌-◌, ◌≤◌}
use Rattle.cordyceps_list.specs.Fingers.{IsOn}
use Rattle.cordyceps_list.proofs.finger.Finger.walked_on_in.Given as goal

abbrev pub invariant-loop-finger : goal.invariant-loop-finger
invariant-loop-finger g l = record { on : IsOn l.chain l.finger; before : l.finger.index ≤ l.to; counted : l.steps + (l.to - l.finger.index) ≡ l.fn.steps + (l.to - l.fn.self.index) }

abbrev pub decreases-loop-finger : goal.decreases-loop-finger
decreases-loop-finger g l = l.to - l.finger.index
