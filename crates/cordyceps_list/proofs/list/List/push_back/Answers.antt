use Rattle.std.proofs.Common.{length, ap, [], ◌∷◌, arith, length-append}
use Rattle.std.proofs.lemmas.Grind.{common_steps}
use Rattle.cordyceps_list.proofs.Places.{fit_off}
use Rattle.cordyceps_list.proofs.list.List.push_back.Goals as goal

pub invariant_of-self : goal.invariant_of-self
invariant_of-self g c =
    let nodes = c.self.inside.chain in
    fit_off c.link_back.new.self c.take_off.new.self (omega (arith, c.len.ensures, c.take_off.ensures, ap length c.link_back.ensures.holds, length-append nodes ((c.link_back.result.ptr, c.into_ptr.result) ∷ [])))

pub returns : goal.returns
returns g c = grind (arith, common_steps)
