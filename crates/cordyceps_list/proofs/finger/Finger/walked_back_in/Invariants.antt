use Rattle.std.proofs.Common.{◌≡◌, ◌+◌, ◌-◌, ◌≤◌}
use Rattle.cordyceps_list.specs.Fingers.{IsOn}
use Rattle.cordyceps_list.proofs.finger.Finger.walked_back_in.Given as goal

abbrev pub invariant-loop-finger : goal.invariant-loop-finger
invariant-loop-finger g l = record { on : IsOn l.chain l.finger; after : l.to ≤ l.finger.index; counted : l.steps + (l.finger.index - l.to) ≡ l.fn.steps + (l.fn.self.index - l.to) }

abbrev pub decreases-loop-finger : goal.decreases-loop-finger
decreases-loop-finger g l = l.finger.index
