use Rattle.std.proofs.Common.{arith}
use Rattle.cordyceps_many.proofs.Marking.{next_set}
use Rattle.cordyceps_many.proofs.marked.Marked.set_next.Goals as goal

pub returns : goal.returns
returns g c = let long = c.requires.long in let within = c.requires.within in next_set c.args.self.now.links c.args.self.now.marks c.args.i c.args.next (omega (arith, long, within))
