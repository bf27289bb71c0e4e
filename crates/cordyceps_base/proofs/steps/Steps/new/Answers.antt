use Rattle.std.proofs.Common.{refl}
use Rattle.cordyceps_base.proofs.steps.Steps.new.Goals as goal

pub returns : goal.returns
returns c = refl
