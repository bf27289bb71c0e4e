use Rattle.std.proofs.Common.{◌≡◌, ◌==◌, length, subst}
use Rattle.cordyceps_single.proofs.Elements.{tells_empty}
use Rattle.cordyceps_single.proofs.stack.Stack.is_empty.Goals as goal

pub returns : goal.returns
returns g c = subst (λ s. c.is_empty.result ≡ (length s == 0)) c.self.view_is (tells_empty c.is_empty.result c.self.inside.chain c.is_empty.ensures)
