use Rattle.std.proofs.Common.{refl, ap, ◌∙◌}
use Rattle.cordyceps_base.specs.Element.{with_value}
use Rattle.cordyceps_base.proofs.Places.{elements-with_item}
use Rattle.cordyceps_list.proofs.Places.{fit_written}
use Rattle.cordyceps_list.proofs.list.List.value_mut_at.Goals as goal

pub invariant_of-self-lent : goal.invariant_of-self-lent
invariant_of-self-lent g c = λ w. fit_written c.self.inside.chain c.args.index w c.seek-address.new.self c.seek-address.ensures.fit

pub returns : goal.returns
returns g c =
    let nodes = c.self.inside.chain in
    let k = c.args.index in (
      (refl, λ w. elements-with_item nodes k w ∙ ap (λ s. with_value s k w) c.self.view_is),
      record { writes_back = tt; value = rw (← c.self.view_is) c.get_mut.ensures.value },
    )
