use Rattle.std.proofs.Common.{[], sym, subst, refl, arith}
use Rattle.cordyceps_base.specs.DoubleLines.{AreLines}
use Rattle.cordyceps_base.proofs.double_lines.Lines.new.Goals as goal

pub invariant_of-result : goal.invariant_of-result
invariant_of-result g c = record { long = refl; within = omega arith; lines = subst (AreLines []) (sym c.empty.ensures) (record { comparable = tt; distinct = tt; lines = []; parts = refl; led = tt }) }

pub returns : goal.returns
returns g c = refl
