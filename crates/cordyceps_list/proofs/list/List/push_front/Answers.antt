use Rattle.std.proofs.Common.{rules, arith, ap, length}
use Rattle.cordyceps_list.proofs.Places.{fit_off}
use Rattle.cordyceps_list.proofs.list.List.push_front.Goals as goal

pub invariant_of-self : goal.invariant_of-self
invariant_of-self g c = fit_off c.link_front.new.self c.take_off.new.self (omega (arith, c.len.ensures, c.take_off.ensures, ap length c.link_front.ensures.holds))

pub returns : goal.returns
returns g c = search rules
