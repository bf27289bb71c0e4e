use Rattle.std.proofs.Common.{[], ◌∷◌, ap, ◌∙◌, refl, sym, subst}
use Rattle.cordyceps_base.specs.Boxes.{box_addresses}
use Rattle.cordyceps_base.specs.Nodes.{block_element, nodes_of}
use Rattle.cordyceps_base.specs.SingleChain.{IsLed, EndsAt, unless_null}
use Rattle.cordyceps_base.specs.Spots.{AreNullComparable}
use Rattle.cordyceps_base.proofs.SingleChain.{leads_to_null, leads_there}
use Rattle.cordyceps_base.proofs.single_chain.SingleChain.one.Goals as goal

pub invariant_of-result : goal.invariant_of-result
invariant_of-result g c =
    let at = c.one-boxes.result.0 in let is = c.null_comparable.ensures.0 ∙ c.one-boxes.ensures in let x = c.from_box.result.value in
    let there = (subst (λ l. AreNullComparable (box_addresses l)) c.one-boxes.ensures c.null_comparable.ensures.1).0.0 in record {
      led = subst (IsLed (unless_null at)) (sym is) (leads_there at.ptr there, leads_to_null x.links.next.ptr (ap (λ x. x.links.next.ptr) c.from_box.ensures ∙ c.null.ensures));
      ends = subst (λ l. EndsAt l at.ptr) (sym is) refl;
      comparable = subst (λ l. AreNullComparable (box_addresses l)) (sym c.null_comparable.ensures.0) c.null_comparable.ensures.1;
    }

pub returns : goal.returns
returns g c =
    let address = c.one-boxes.result.0.ptr in (
      address,
      ap nodes_of c.null_comparable.ensures.0 ∙ ap nodes_of c.one-boxes.ensures ∙ (λ i. (address, block_element (c.from_box.ensures i)) ∷ []) ∙ (λ i. (address, block_element (c.deref_mut.ensures.value i)) ∷ []) ∙ (λ i. (address, c.into_block-block.ensures i) ∷ []),
    )
