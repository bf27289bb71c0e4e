use Rattle.std.proofs.Common.{None, sym, subst}
use Rattle.std.proofs.lemmas.List.{get_or-replicate}
use Rattle.cordyceps_clock.specs.Buckets.{IsTimed}
use Rattle.cordyceps_clock.proofs.clock_queue.ClockQueue.new_with_times.Goals as goal

pub invariant_of-result : goal.invariant_of-result
invariant_of-result g c of has = subst (IsTimed of 0 _) (sym c.new.ensures) (record { kept = record { ascends = tt; last = λ k small. get_or-replicate 65 k None None small }; times = tt })
