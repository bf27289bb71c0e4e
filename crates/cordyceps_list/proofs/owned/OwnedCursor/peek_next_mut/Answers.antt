use Rattle.std.proofs.Common.{◌≡◌, ◌∙◌, length, refl, ap, sym}
use Rattle.std.proofs.lemmas.List.{length-map}
use Rattle.cordyceps_base.specs.Element.{with_value}
use Rattle.cordyceps_base.specs.Nodes.{elements}
use Rattle.cordyceps_base.proofs.Places.{elements-with_item}
use Rattle.cordyceps_list.specs.Places.{next_place}
use Rattle.cordyceps_list.proofs.Places.{stands_written}
use Rattle.cordyceps_list.proofs.owned.OwnedCursor.peek_next_mut.Goals as goal

pub invariant_of-self-lent : goal.invariant_of-self-lent
invariant_of-self-lent g c = let at = c.self.inside.at in λ w. stands_written c.self.inside.chain c.next-next.result.index w at.address at.index c.self.invariant

pub returns : goal.returns
returns g c =
    let nodes = c.self.inside.chain in
    let at = c.self.inside.at.index in
    let k = c.next-next.result.index in
    let e : k ≡ next_place (length (elements nodes)) at = c.next-next.ensures.place ∙ ap (λ n. next_place n at) (sym (length-map nodes (λ n. n.1))) in
    let f : k ≡ next_place (length c.args.self.now.elements) c.args.self.now.place = e ∙ ap (λ p. next_place (length p.elements) p.place) c.self.view_is in (
      (
        refl,
        λ w. (λ i. record { elements = elements-with_item nodes k w i; place = at }) ∙ ap (λ j. record { elements = with_value (elements nodes) j w; place = at }) e ∙ ap (λ p. record { elements = with_value p.elements (next_place (length p.elements) p.place) w; place = p.place }) c.self.view_is,
      ),
      record { writes_back = tt; value = rw (← f, ← ap (λ p. p.elements) c.self.view_is) c.get_mut.ensures.value },
    )
