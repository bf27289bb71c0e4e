use Rattle.cordyceps_many.proofs.Indexed.{ends_is}
use Rattle.cordyceps_many.proofs.hooks.ThreeRows.ends_of.Goals as goal

pub returns : goal.returns
returns c = ends_is c.args.row.now c.args.i
