use Rattle.std.proofs.Common.{◌-◌, arith}
use Rattle.cordyceps_many.proofs.Marking.{mark_off}
use Rattle.cordyceps_many.proofs.marked.Marked.unmark.Goals as goal

pub returns-then-i-gt0 : goal.returns-then-i-gt0
returns-then-i-gt0 g c = λ m.
    let long = c.requires.long in let within = c.requires.within in
    mark_off c.args.self.now.links c.args.self.now.marks c.args.i (c.args.i - 1) (omega (arith, long, within)) (omega (arith, m))

pub returns-else-i-gt0 : goal.returns-else-i-gt0
returns-else-i-gt0 g c = λ m. let n = c.if-i-gt0.false in absurd (omega (arith, m, n))
