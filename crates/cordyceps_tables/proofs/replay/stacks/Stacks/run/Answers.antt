use Rattle.std.proofs.Common.{arith}
use Rattle.std.proofs.lemmas.Grind.{common_steps}
use Rattle.cordyceps_tables.proofs.replay.stacks.Stacks.run.Goals as goal

pub listed : goal.listed
listed c = let fits = rw c.in-Push.is at c.requires in omega (arith, fits)

pub bounds-self-inside-stack : goal.bounds-self-inside-stack
bounds-self-inside-stack c = let fits = rw c.in-Push.is at c.requires in omega (arith, fits)

pub listed-in-Pop : goal.listed-in-Pop
listed-in-Pop c = let fits = rw c.in-Pop.is at c.requires in omega (arith, fits)

pub bounds-self-inside-stack-in-Pop : goal.bounds-self-inside-stack-in-Pop
bounds-self-inside-stack-in-Pop c = let fits = rw c.in-Pop.is at c.requires in omega (arith, fits)

pub listed-in-IsEmpty : goal.listed-in-IsEmpty
listed-in-IsEmpty c = let fits = rw c.in-IsEmpty.is at c.requires in omega (arith, fits)

pub bounds-self-inside-stack-in-IsEmpty : goal.bounds-self-inside-stack-in-IsEmpty
bounds-self-inside-stack-in-IsEmpty c = let fits = rw c.in-IsEmpty.is at c.requires in omega (arith, fits)

pub listed-in-Drain : goal.listed-in-Drain
listed-in-Drain c = let fits = rw c.in-Drain.is at c.requires in omega (arith, fits)

pub bounds-self-inside-stack-in-Drain : goal.bounds-self-inside-stack-in-Drain
bounds-self-inside-stack-in-Drain c = let fits = rw c.in-Drain.is at c.requires in omega (arith, fits)

pub returns-in-Push-clause-ok : goal.returns-in-Push-clause-ok
returns-in-Push-clause-ok c = grind (arith, common_steps)

pub returns-in-Pop-clause-ok : goal.returns-in-Pop-clause-ok
returns-in-Pop-clause-ok c = grind (arith, common_steps)

pub returns-in-IsEmpty-clause-ok : goal.returns-in-IsEmpty-clause-ok
returns-in-IsEmpty-clause-ok c = grind (arith, common_steps)

pub returns-in-Drain-clause-ok : goal.returns-in-Drain-clause-ok
returns-in-Drain-clause-ok c = grind (arith, common_steps)
