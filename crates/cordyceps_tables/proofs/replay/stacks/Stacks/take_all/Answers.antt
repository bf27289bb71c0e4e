use Rattle.std.proofs.Common.{arith}
use Rattle.std.proofs.lemmas.Grind.{common_steps}
use Rattle.cordyceps_tables.proofs.replay.stacks.Stacks.take_all.Goals as goal

pub listed : goal.listed
listed c = omega (arith, c.requires.to)

pub bounds-self-inside-to : goal.bounds-self-inside-to
bounds-self-inside-to c = omega (arith, c.requires.to)

pub returns-then-from-to : goal.returns-then-from-to
returns-then-from-to c = grind (arith, common_steps)

pub listed-2 : goal.listed-2
listed-2 c = omega (arith, c.requires.from)

pub bounds-self-inside-from : goal.bounds-self-inside-from
bounds-self-inside-from c = omega (arith, c.requires.from)

pub listed-3 : goal.listed-3
listed-3 c = omega (arith, c.requires.to)

pub way_replace-drop : goal.way_replace-drop
way_replace-drop c = omega (arith, c.requires.to)

pub returns : goal.returns
returns c = grind (arith, common_steps)
