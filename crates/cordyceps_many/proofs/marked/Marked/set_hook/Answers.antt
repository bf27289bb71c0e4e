use Rattle.std.proofs.Common.{◌≡◌, ◌-◌, arith}
use Rattle.cordyceps_many.proofs.Marking.{set_first, set_other}
use Rattle.cordyceps_many.proofs.marked.Marked.set_hook.Goals as goal

pub returns-then-i-gt0 : goal.returns-then-i-gt0
returns-then-i-gt0 g c = let m = c.if-i-gt0.true in set_other c.args.self.now.links c.args.self.now.marks c.args.i (c.args.i - 1) c.args.hook (omega (arith, m))

pub returns-else-i-gt0 : goal.returns-else-i-gt0
returns-else-i-gt0 g c = let n = c.if-i-gt0.false in let z : c.args.i ≡ 0 = omega (arith, n) in set_first c.args.self.now.links c.args.self.now.marks c.args.i c.args.hook z (c.requires.on z)
