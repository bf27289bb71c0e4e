use Rattle.std.proofs.Common.{◌<◌, ◌+◌, length, refl, ap, ◌∙◌, arith}
use Rattle.std.proofs.lemmas.List.{length-map}
use Rattle.cordyceps_base.specs.Element.{with_value}
use Rattle.cordyceps_base.proofs.Places.{elements-with_item}
use Rattle.cordyceps_list.proofs.Places.{stands_written}
use Rattle.cordyceps_list.proofs.owned.OwnedCursor.next_mut.Goals as goal

pub invariant_of-self-lent : goal.invariant_of-self-lent
invariant_of-self-lent g c =
    let nodes = c.self.inside.chain in
    let k = c.self.inside.at.index in
    let inside : k < length nodes = omega (arith, c.requires, ap (λ p. p.place) c.self.view_is, ap (λ p. length p.elements) c.self.view_is, length-map nodes (λ n. n.1)) in
    λ w. stands_written nodes k w c.next.result (k + 1) (record { within = omega (arith, inside); on = c.next.ensures.on })

pub returns : goal.returns
returns g c =
    let nodes = c.self.inside.chain in
    let k = c.self.inside.at.index in (
      (refl, λ w. (λ i. record { elements = elements-with_item nodes k w i; place = k + 1 }) ∙ ap (λ p. record { elements = with_value p.elements p.place w; place = p.place + 1 }) c.self.view_is),
      record { writes_back = tt; value = rw (← c.self.view_is) c.get_mut.ensures.value },
    )
