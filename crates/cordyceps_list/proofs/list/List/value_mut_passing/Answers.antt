use Rattle.std.proofs.Common.{◌+◌, refl, ap, ◌∙◌}
use Rattle.cordyceps_base.specs.Element.{with_value}
use Rattle.cordyceps_base.proofs.Places.{elements-with_item}
use Rattle.cordyceps_list.specs.declared.finger.Finger.{Finger}
use Rattle.cordyceps_list.specs.Fingers.{FingerFits}
use Rattle.cordyceps_list.proofs.Places.{fit_written}
use Rattle.cordyceps_list.proofs.list.List.value_mut_passing.Goals as goal

pub invariant_of-self-lent : goal.invariant_of-self-lent
invariant_of-self-lent g c =
    let nodes = c.self.inside.chain in
    let k = c.args.index in
    let passed : Finger = record { address = c.next.result; index = k + 1 } in
    let fits : FingerFits nodes passed = c.next.ensures.on in
    let sought = c.seek-address.ensures in
    λ w. fit_written nodes k w (record { front = passed; back = c.seek-address.new.self.back }) (record { front = fits; back = λ on_front. sought.fit.back sought.on })

pub returns : goal.returns
returns g c =
    let nodes = c.self.inside.chain in
    let k = c.args.index in (
      (refl, λ w. elements-with_item nodes k w ∙ ap (λ s. with_value s k w) c.self.view_is),
      record { writes_back = tt; value = rw (← c.self.view_is) c.get_mut.ensures.value },
    )
