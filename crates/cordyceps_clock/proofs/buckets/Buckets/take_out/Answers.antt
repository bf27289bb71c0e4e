use Rattle.std.proofs.Common.{subst}
use Rattle.cordyceps_base.specs.BySpot.{IsTaken}
use Rattle.cordyceps_clock.proofs.buckets.Buckets.take_out.Goals as goal

pub returns-clause-taken : goal.returns-clause-taken
returns-clause-taken g c =
    subst (λ l. IsTaken l c.args.at (g.T.Linked.element c.remove.result) c.remove.new.self) c.leave_out.ensures.list
    c.remove.ensures.taken

pub returns-clause-kept : goal.returns-clause-kept
returns-clause-kept g c of has kept =
    c.leave_out.ensures.kept of (g.T.Linked.element c.remove.result) c.remove.new.self has kept (returns-clause-taken g c)
