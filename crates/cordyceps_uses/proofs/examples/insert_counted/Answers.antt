use Rattle.std.proofs.Common.{rules}
use Rattle.cordyceps_uses.proofs.examples.insert_counted.Goals as goal

pub returns-clause-count : goal.returns-clause-count
returns-clause-count c = search rules
