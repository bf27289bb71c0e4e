use Rattle.std.proofs.Common.{◌-◌, ◌≤◌}
use Rattle.cordyceps_list.specs.Fingers.{IsOn}
use Rattle.cordyceps_list.proofs.finger.Finger.walked.Given as goal

abbrev pub invariant-loop-finger : goal.invariant-loop-finger
invariant-loop-finger g l = IsOn l.chain l.finger

abbrev pub decreases-loop-finger : goal.decreases-loop-finger
decreases-loop-finger g l = l.to - l.finger.index

abbrev pub invariant-loop-finger-2 : goal.invariant-loop-finger-2
invariant-loop-finger-2 g l = record { on : IsOn l.chain l.finger; after : l.to ≤ l.finger.index }

abbrev pub decreases-loop-finger-2 : goal.decreases-loop-finger-2
decreases-loop-finger-2 g l = l.finger.index
