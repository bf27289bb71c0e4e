use Rattle.std.proofs.Common.{◌≡◌, ◌-◌, length}
use Rattle.std.specs.Prelude.{nat_le}
use Rattle.cordyceps.specs.Cursors.DrainFilter.{elements, place, lender, predicate_of}
use Rattle.cordyceps_uses.specs.contracts.examples.fn.move_urgent.drain_filter as closure
use Rattle.cordyceps_uses.specs.declared.job.Job.{Job}
use Rattle.cordyceps_uses.proofs.Draining.{Drains}
use Rattle.cordyceps_uses.proofs.examples.move_urgent.Given as goal

abbrev pub invariant-loop-job : goal.invariant-loop-job
invariant-loop-job l =
    record {
      same_reference : lender l.out ≡ lender l.initial.out;
      most_is : (closure.captures (predicate_of l.out)).most ≡ l.fn.most;
      drains : Drains (λ (x : Job). nat_le x.rank l.fn.most) l.fn.urgent l.fn.jobs l.urgent (elements l.out) (place l.out);
    }

abbrev pub decreases-loop-job : goal.decreases-loop-job
decreases-loop-job l = length (elements l.out) - place l.out
