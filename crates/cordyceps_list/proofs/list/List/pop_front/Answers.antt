use Rattle.std.proofs.Common.{rules, arith, ap, length}
use Rattle.cordyceps_list.proofs.Places.{fit_off}
use Rattle.cordyceps_list.proofs.list.List.pop_front.Goals as goal

pub invariant_of-self : goal.invariant_of-self
invariant_of-self g c =
    let (address, is) = c.unlink_front.ensures in
    fit_off c.unlink_front.new.self c.take_off.new.self (omega (arith, c.len-2.ensures, c.take_off.ensures, ap length is))

pub returns : goal.returns
returns g c = search rules
