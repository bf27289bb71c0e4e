use Rattle.std.proofs.Common.{◌++◌, ◌∷◌, [], map, sym, ap, ◌∙◌, subst, append_assoc, append-nil}
use Rattle.std.specs.List.Sorted.{IsPermutation}
use Rattle.cordyceps_base.specs.Element.{Element}
use Rattle.cordyceps_commands.specs.declared.item.Item.{Item}
use Rattle.replay_sharing.proofs.share.values_in_order.Goals as goal

pub loop-node-init : goal.loop-node-init
loop-node-init c = λ i. sym c.new-values.ensures.items i ++ map (λ e. e.value.value) (sym c.into_iter-node-iterator.ensures.into_iter_gives i)

pub loop-node-preserved : goal.loop-node-preserved
loop-node-preserved c =
    let before = c.loop-node.values.items in
    let rest = map (λ (e : Element Item). e.value.value) c.next.new.self in
    let value = ap (λ (item : Item). item.value) c.get.ensures in
    c.loop-node.invariant ∙ (ap (λ z. before ++ map (λ (e : Element Item). e.value.value) z) c.in-Some.ensures.steps
    ∙ ((λ i. before ++ sym value i ∷ rest) ∙ (sym (append_assoc before (c.get.result.now.value ∷ []) rest) ∙ ap (λ z. z ++ rest) (sym c.in_ok-push.ensures.items))))

pub returns : goal.returns
returns c =
    let all = c.loop-node.invariant ∙ (ap (λ z. c.loop-node.values.items ++ map (λ (e : Element Item). e.value.value) z) c.in-None.ensures.steps.0 ∙ append-nil c.loop-node.values.items) in
    (subst (λ z. IsPermutation z c.sort.new.self.items) (sym all) c.in_ok-sort.ensures.permutation, c.in_ok-sort.ensures.sorted)
