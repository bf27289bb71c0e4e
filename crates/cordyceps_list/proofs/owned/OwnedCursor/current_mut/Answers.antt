use Rattle.std.proofs.Common.{refl, ap, ◌∙◌}
use Rattle.cordyceps_base.specs.Element.{with_value}
use Rattle.cordyceps_base.proofs.Places.{elements-with_item}
use Rattle.cordyceps_list.proofs.Places.{stands_written}
use Rattle.cordyceps_list.proofs.owned.OwnedCursor.current_mut.Goals as goal

pub invariant_of-self-lent : goal.invariant_of-self-lent
invariant_of-self-lent g c = let at = c.self.inside.at in λ w. stands_written c.self.inside.chain at.index w at.address at.index c.self.invariant

pub returns : goal.returns
returns g c =
    let nodes = c.self.inside.chain in
    let k = c.self.inside.at.index in (
      (refl, λ w. (λ i. record { elements = elements-with_item nodes k w i; place = k }) ∙ ap (λ p. record { elements = with_value p.elements p.place w; place = p.place }) c.self.view_is),
      record { writes_back = tt; value = rw (← c.self.view_is) c.get_mut.ensures.value },
    )
