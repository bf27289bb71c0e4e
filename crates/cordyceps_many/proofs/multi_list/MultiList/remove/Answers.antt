use Rattle.std.proofs.Common.{subst}
use Rattle.cordyceps_base.specs.BySpot.{IsTaken}
use Rattle.cordyceps_many.proofs.Members.{taken_keeps}
use Rattle.cordyceps_many.proofs.multi_list.MultiList.remove.Goals as goal

pub returns-clause-taken : goal.returns-clause-taken
returns-clause-taken g c = subst (λ n. IsTaken n c.args.at c.take_out.result c.take_out.new.self.nodes) c.unlink_others.ensures.nodes c.take_out.ensures.nodes

pub returns-clause-kept : goal.returns-clause-kept
returns-clause-kept g c = taken_keeps _ _ _ _ (returns-clause-taken g c)
