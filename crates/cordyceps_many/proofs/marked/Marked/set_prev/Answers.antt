use Rattle.std.proofs.Common.{arith}
use Rattle.cordyceps_many.proofs.Marking.{prev_set}
use Rattle.cordyceps_many.proofs.marked.Marked.set_prev.Goals as goal

pub returns : goal.returns
returns g c = let long = c.requires.long in let within = c.requires.within in prev_set c.args.self.now.links c.args.self.now.marks c.args.i c.args.prev (omega (arith, long, within))
