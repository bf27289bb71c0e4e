use Rattle.std.proofs.Common.{subst}
use Rattle.cordyceps_queue.specs.Shared.Bell.{ClearsBell}
use Rattle.cordyceps_queue.proofs.shared.consumer.Consumer.clear_bell.Goals as goal

pub returns : goal.returns
returns g c = subst (λ u. ClearsBell u c.clear_bell.new.self) c.self.view_is c.clear_bell.ensures
