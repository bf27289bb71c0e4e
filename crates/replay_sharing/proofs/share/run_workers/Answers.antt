use Rattle.std.proofs.Common.{List, map, sym, subst, ◌∙◌}
use Rattle.std.proofs.lemmas.List.{map-id}
use Rattle.std.proofs.lemmas.Result.{IfOk-weaker}
use Rattle.std.specs.List.Sorted.{IsPermutation}
use Rattle.cordyceps_base.specs.Element.{Element}
use Rattle.cordyceps_commands.specs.declared.item.Item.{Item}
use Rattle.replay_sharing.specs.Sharing.{Shared}
use Rattle.replay_sharing.proofs.Workers.{returned, ready_then, shared_then}
use Rattle.replay_sharing.proofs.share.run_workers.Goals as goal

pub returns-then-not-both-clause-ready : goal.returns-then-not-both-clause-ready
returns-then-not-both-clause-ready g c =
    let back = returned _ _ _ _ _ _ _ _ _ _ _ _ _ _ _ c.in_ok-node.ensures c.in_ok-node-2.ensures c.in_ok-node-3.ensures c.in_ok-node-4.ensures c.split.ensures c.split-2.ensures
    c.work_both-first.ensures.first c.work_both-first.ensures.second c.party_of.ensures c.party_of-2.ensures c.absorb.ensures c.absorb-2.ensures in
    let then = ready_then _ _ _ _ _ back c.requires.ready c.take_all-items.ensures.0 c.take_all-items.ensures.2 in
    (then.0 ∙ c.requires.table, then.1)

pub returns-clause-values : goal.returns-clause-values
returns-clause-values g c =
    let back = returned _ _ _ _ _ _ _ _ _ _ _ _ _ _ _ c.in_ok-node.ensures c.in_ok-node-2.ensures c.in_ok-node-3.ensures c.in_ok-node-4.ensures c.split.ensures c.split-2.ensures
    c.work_both-first.ensures.first c.work_both-first.ensures.second c.party_of.ensures c.party_of-2.ensures c.absorb.ensures c.absorb-2.ensures in
    let batch = c.take_all-items.ensures.0 in
    let taken = c.take_all-items.ensures.1 ∙ map-id batch in
    IfOk-weaker c.values_in_order.result _ (λ values. Shared c.args.party.now c.take_all-items.new.party values.items)
    (λ values p. shared_then _ _ _ _ _ back c.requires.ready batch c.take_all-items.ensures.2 (sym c.have_worked-both.ensures ∙ c.if-not-both.false) values.items
    (subst (λ (z : List (Element Item)). IsPermutation (map (λ e. e.value.value) z) values.items) taken p.0) p.1)
    c.values_in_order.ensures

pub returns-clause-ready : goal.returns-clause-ready
returns-clause-ready g c =
    let back = returned _ _ _ _ _ _ _ _ _ _ _ _ _ _ _ c.in_ok-node.ensures c.in_ok-node-2.ensures c.in_ok-node-3.ensures c.in_ok-node-4.ensures c.split.ensures c.split-2.ensures
    c.work_both-first.ensures.first c.work_both-first.ensures.second c.party_of.ensures c.party_of-2.ensures c.absorb.ensures c.absorb-2.ensures in
    let then = ready_then _ _ _ _ _ back c.requires.ready c.take_all-items.ensures.0 c.take_all-items.ensures.2 in
    (then.0 ∙ c.requires.table, then.1)
