use Rattle.std.proofs.Common.{[], ◌∷◌, ◌++◌, ap, ◌∙◌, refl, sym, subst}
use denote.RawPtr.{InBlock}
use Rattle.cordyceps_base.specs.declared.boxes.Address.{Address}
use Rattle.cordyceps_base.specs.Boxes.{box_addresses}
use Rattle.cordyceps_base.specs.Nodes.{block_element, nodes_of, OwnedNode}
use Rattle.cordyceps_base.specs.SingleChain.{EndsAt, IsParted, next_of, with_next_of_last}
use Rattle.cordyceps_base.specs.Spots.{AreNullComparable}
use Rattle.cordyceps_base.proofs.Nodes.{nodes_of-append}
use Rattle.cordyceps_base.proofs.SingleChain.{led_somewhere, joined_after, ends_with, ends_here, nodes_of-with_next_of_last, is_none, is_not_none}
use Rattle.cordyceps_base.proofs.single_chain.Cursor.with_node.Goals.{then-is_none, else-is_none}
use Rattle.cordyceps_base.proofs.single_chain.Cursor.with_node.Goals as goal

pub or_nowhere-requires : goal.or_nowhere-requires
or_nowhere-requires g c = led_somewhere c.self.inside.at c.self.inside.rest.blocks c.self.invariant.rest_led c.null_comparable-rest.ensures.1

pub returns-then-is_none-2 : goal.returns-then-is_none-2
returns-then-is_none-2 g c =
    let i = c.self.inside in let (new_at, heap, row) = c.one-new.result in let address = new_at.ptr in
    let node = ap block_element c.from_box.ensures ∙ ap block_element c.deref_mut.ensures.value ∙ c.into_block-block.ensures in
    let new = ap nodes_of c.one-new.ensures ∙ (λ j. (address, node j) ∷ []) in let front = ap (λ v. v.before) c.self.view_is in (
      address,
      ap nodes_of c.join.ensures ∙ (λ j. nodes_of (i.front.blocks ++ c.null_comparable-new.ensures.0 j)) ∙ nodes_of-append i.front.blocks row.blocks ∙ (λ j. front j ++ new j),
      ap nodes_of c.null_comparable-rest.ensures.0 ∙ ap (λ v. v.rest) c.self.view_is,
    )

pub invariant_of-result-2 : goal.invariant_of-result-2
invariant_of-result-2 g c =
    let i = c.self.inside in let (address, heap, row) = c.one-new.result in let n : OwnedNode g.row.T.Denot = (address.ptr, heap, c.from_box.result.value) in let front = with_next_of_last i.front.blocks address in let f = c.self.invariant in
    let null_comparable : AreNullComparable (box_addresses (n ∷ [])) = subst (λ l. AreNullComparable (box_addresses l)) c.one-new.ensures c.null_comparable-new.ensures.1 in let there : InBlock address.ptr = null_comparable.0.0 in
    let ends : EndsAt (front ++ n ∷ [] ++ i.rest.blocks) c.if-is_none.tail.ptr =
    elim c.if-is_none.branch [
      | then-is_none w ↦ subst (λ (p : Address). EndsAt (front ++ n ∷ [] ++ i.rest.blocks) p.ptr) (sym w.tail-is) (ends_here i.at front i.rest.blocks n f.rest_led (is_none i.at w.if-is_none.ensures))
      | else-is_none w ↦ subst (λ (p : Address). EndsAt (front ++ n ∷ [] ++ i.rest.blocks) p.ptr) (sym w.tail-is) (ends_with i.at i.tail.ptr i.front.blocks front i.rest.blocks n f.rest_led f.ends (is_not_none i.at w.if-is_none.ensures))
    ] in
    subst (λ l. IsParted i.head address.ptr i.at c.if-is_none.tail.ptr c.join-2.result.blocks l) (sym c.null_comparable-rest.ensures.0)
    (subst (λ l. IsParted i.head address.ptr i.at c.if-is_none.tail.ptr l i.rest.blocks) (sym (c.join-2.ensures ∙ (λ j. c.with_last_link.ensures j ++ (c.null_comparable-new.ensures.0 ∙ c.one-new.ensures) j)))
    (joined_after i.head i.at i.before.ptr i.tail.ptr c.if-is_none.tail.ptr i.front.blocks i.rest.blocks n address refl there f (is_not_none i.head c.if-is_none-2.ensures) (ap (λ x. next_of x) c.from_box.ensures ∙ c.or_nowhere.ensures) ends))

pub returns : goal.returns
returns g c =
    let i = c.self.inside in let (new_at, heap, row) = c.one-new.result in let address = new_at.ptr in
    let node = ap block_element c.from_box.ensures ∙ ap block_element c.deref_mut.ensures.value ∙ c.into_block-block.ensures in
    let new = ap nodes_of c.one-new.ensures ∙ (λ j. (address, node j) ∷ []) in
    let front = ap nodes_of c.with_last_link.ensures ∙ nodes_of-with_next_of_last i.front.blocks new_at ∙ ap (λ v. v.before) c.self.view_is in (
      address,
      ap nodes_of c.join-2.ensures ∙ (λ j. nodes_of (c.with_last_link.result.blocks ++ c.null_comparable-new.ensures.0 j)) ∙ nodes_of-append c.with_last_link.result.blocks row.blocks ∙ (λ j. front j ++ new j),
      ap nodes_of c.null_comparable-rest.ensures.0 ∙ ap (λ v. v.rest) c.self.view_is,
    )
