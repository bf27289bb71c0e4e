use Rattle.std.proofs.Common.{rules}
use Rattle.cordyceps_queue.proofs.cores.machine.Machine.add_party.Goals as goal

pub returns-clause-ok : goal.returns-clause-ok
returns-clause-ok g c = (search rules, search rules)
