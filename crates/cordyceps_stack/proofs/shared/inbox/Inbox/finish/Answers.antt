use Rattle.std.proofs.Common.{rules}
use Rattle.cordyceps_stack.proofs.shared.inbox.Inbox.finish.Goals as goal

pub returns : goal.returns
returns g c = search rules
