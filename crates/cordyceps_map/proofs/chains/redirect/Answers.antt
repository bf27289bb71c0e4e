use Rattle.cordyceps_map.proofs.Redirecting.{redirected}
use Rattle.cordyceps_map.proofs.chains.redirect.Goals as goal

pub returns-clause-nodes : goal.returns-clause-nodes
returns-clause-nodes g c = redirected c.args.nodes.now.nodes c.args.at c.args.next c.get_mut-entry.result.now c.requires c.get_mut-entry.ensures.value
