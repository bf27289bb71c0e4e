use Rattle.cordyceps_channel.specs.Selects.{Selects}
use Rattle.cordyceps_channel.proofs.laws.select_all.Given as goal

abbrev pub invariant-loop : goal.invariant-loop
invariant-loop g l = Selects l.all.items l.initial.select l.select
