use Rattle.std.proofs.Common.{arith, ap, length}
use Rattle.std.proofs.lemmas.List.{length-map}
use Rattle.cordyceps_list.proofs.list.List.len.Goals as goal

pub returns : goal.returns
returns g c = omega (arith, ap length c.self.view_is, length-map c.self.inside.chain (λ n. n.1))
