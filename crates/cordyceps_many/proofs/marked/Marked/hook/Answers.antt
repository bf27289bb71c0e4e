use Rattle.std.proofs.Common.{◌-◌, sym, arith}
use Rattle.cordyceps_many.proofs.Marking.{read_first, read_other}
use Rattle.cordyceps_many.proofs.marked.Marked.hook.Goals as goal

pub returns-then-i-eq0 : goal.returns-then-i-eq0
returns-then-i-eq0 g c = let long = c.requires.long in let within = c.requires.within in let z = c.if-i-eq0.true in sym (read_first c.args.self.now.links c.args.self.now.marks c.args.i (omega (arith, long, within)) z)

pub returns-else-i-eq0 : goal.returns-else-i-eq0
returns-else-i-eq0 g c = let long = c.requires.long in let within = c.requires.within in let n = c.if-i-eq0.false in sym (read_other c.args.self.now.links c.args.self.now.marks c.args.i (c.args.i - 1) (omega (arith, long, within)) (omega (arith, n)))
