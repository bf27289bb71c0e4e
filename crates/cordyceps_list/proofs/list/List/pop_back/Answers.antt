use Rattle.std.proofs.Common.{arith}
use Rattle.std.proofs.lemmas.Grind.{common_steps}
use Rattle.cordyceps_list.proofs.Places.{fit_less}
use Rattle.cordyceps_list.proofs.list.List.pop_back.Goals as goal

pub invariant_of-self : goal.invariant_of-self
invariant_of-self g c =
    let (address, is) = c.unlink_back.ensures in
    fit_less c.self.inside.chain c.unlink_back.new.self (address, c.unlink_back.result) c.self.inside.fingers c.self.invariant is

pub returns : goal.returns
returns g c = grind (arith, common_steps)
