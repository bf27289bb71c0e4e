use Rattle.std.proofs.Common.{subst}
use Rattle.cordyceps_queue.specs.Shared.Calls.{GivesRight}
use Rattle.cordyceps_queue.proofs.shared.consumer.Consumer.release.Goals as goal

pub returns : goal.returns
returns g c = subst (λ u. GivesRight u c.give_right.result) c.self.view_is c.give_right.ensures
