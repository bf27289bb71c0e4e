use Rattle.std.proofs.Common.{[], refl}
use Rattle.cordyceps_stack.proofs.CoreTheory.CoreKeeps.{meets_new}
use Rattle.cordyceps_stack.proofs.cores.calls.TransferCore.new.Goals as goal

pub invariant_of-result : goal.invariant_of-result
invariant_of-result g c = rw (c.new.ensures, c.new-2.ensures.items) ([], meets_new)

pub returns-clause-history : goal.returns-clause-history
returns-clause-history g c = rw (c.new.ensures, c.new-2.ensures.items) meets_new

pub returns-clause-walks : goal.returns-clause-walks
returns-clause-walks g c = λ p. rw (c.new.ensures, c.new-2.ensures.items) record { left = []; is_left = refl; all = refl }
