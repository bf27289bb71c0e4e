use Rattle.std.proofs.Common.{subst}
use Rattle.cordyceps_channel.specs.Channels.{IsNamed}
use Rattle.cordyceps_channel.proofs.closed.Closed.into_receipt.Goals as goal

pub returns-clause-named : goal.returns-clause-named
returns-clause-named g c = subst (λ p. IsNamed p) c.self.view_is c.self.invariant.named
