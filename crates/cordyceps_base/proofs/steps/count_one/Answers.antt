use Rattle.std.proofs.Common.{◌+◌, ap}
use Rattle.cordyceps_base.proofs.steps.count_one.Goals as goal

pub returns : goal.returns
returns c = ap (λ n. n + 1) c.steps.view_is
