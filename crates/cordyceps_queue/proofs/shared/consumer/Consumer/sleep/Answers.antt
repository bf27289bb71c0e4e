use Rattle.std.proofs.Common.{subst}
use Rattle.cordyceps_queue.specs.Shared.Bell.{Sleeps}
use Rattle.cordyceps_queue.proofs.shared.consumer.Consumer.sleep.Goals as goal

pub returns : goal.returns
returns g c = subst (λ u. Sleeps c.sleep.result u c.sleep.new.self) c.self.view_is c.sleep.ensures
