use Rattle.std.proofs.Common.{arith, ◌∙◌}
use Rattle.cordyceps.specs.Orders.Preorder.{by_number_lawful}
use Rattle.cordyceps.proofs.Spots.ValueIndexes.{index_of_added}
use Rattle.cordyceps_uses.proofs.Indexed.{entered, perhaps_left}
use Rattle.cordyceps_uses.proofs.sessions.Sessions.open.Goals as goal

pub invariant_of-self : goal.invariant_of-self
invariant_of-self c =
    let i = c.insert-inserted.ensures.inserted in let u = c.insert-inserted.new.self in let p = c.insert-inserted.result.spot in let a = c.lists_agree-2.ensures in let out = c.insert-inserted.ensures.not_in in
    let t = perhaps_left _ c.self.inside.map i.rest c.args.node.value.0 c.insert-inserted.result.replaced i.replaced c.lists_agree.ensures c.self.invariant in
    let x = c.link_in_order.ensures in let y = c.link_in_order-2.ensures in
    entered u c.link_in_order.new.self c.link_in_order-2.new.self p
    (index_of_added (by_number_lawful (λ s. s.seen)) 1 i.rest p c.args.node u a (out 1 (omega arith)) i.added.nodes (i.added.others.lists 1 (λ e. absurd cc)) t.by_use)
    (index_of_added (by_number_lawful (λ s. s.deadline)) 2 i.rest p c.args.node u a (out 2 (omega arith)) i.added.nodes (i.added.others.lists 2 (λ e. absurd cc)) t.by_deadline)
    x.nodes x.list x.others.lists y.nodes y.list y.others.lists

pub returns : goal.returns
returns c = rw (← c.self.view_is) (c.insert-inserted.result.spot, c.insert-inserted.new.self, c.insert-inserted.ensures.inserted, c.link_in_order-2.ensures.nodes ∙ c.link_in_order.ensures.nodes)
