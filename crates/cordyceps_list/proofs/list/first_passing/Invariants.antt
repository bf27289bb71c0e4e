use Rattle.std.proofs.Common.{ℕ, ◌+◌, ◌-◌, ◌≤◌, length, drop}
use Rattle.std.specs.Fn.{CalledAt}
use Rattle.cordyceps_base.specs.Element.{values}
use Rattle.cordyceps_base.specs.Nodes.{elements}
use Rattle.cordyceps_list.specs.Fingers.{FingerFits}
use Rattle.cordyceps_list.specs.Walks.{MayAsk, Walks}
use Rattle.cordyceps_list.proofs.list.first_passing.Given as goal

abbrev pub invariant-loop-finger : goal.invariant-loop-finger
invariant-loop-finger g l = record {
  callable : MayAsk g.F.FnMut (drop l.finger.index (values (elements l.chain))) l.predicate;
  fits : FingerFits l.chain l.finger;
  inside : l.finger.index ≤ length l.chain;
  from : l.fn.from.index ≤ l.finger.index;
  walks : (n : ℕ) (last : _) → Walks (CalledAt g.F.FnMut) l.predicate (drop l.finger.index (values (elements l.chain))) n last → Walks (CalledAt g.F.FnMut) l.fn.predicate (drop l.fn.from.index (values (elements l.chain))) (l.finger.index - l.fn.from.index + n) last;
}

abbrev pub decreases-loop-finger : goal.decreases-loop-finger
decreases-loop-finger g l = length l.chain - l.finger.index
