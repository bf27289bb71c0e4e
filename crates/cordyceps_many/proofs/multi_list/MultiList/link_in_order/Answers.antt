use Rattle.std.proofs.Common.{sym, subst}
use Rattle.cordyceps_many.specs.InOrder.{IsInOrder}
use Rattle.cordyceps_many.specs.MultiList.{list_at}
use Rattle.cordyceps_many.proofs.Placed.{put_after, put_first, put_in_order}
use Rattle.cordyceps_many.proofs.multi_list.MultiList.link_in_order.Goals as goal

pub returns-in-Some-clause-list : goal.returns-in-Some-clause-list
returns-in-Some-clause-list g c =
    let v = c.args.self.now in let s = list_at c.args.i v.lists in let by = g.O.Order.compares_by c.args.order.now in
    put_after by v.nodes c.args.at s (c.lists_agree.ensures.once c.args.i) c.in-Some.other c.in-Some.ensures.after (list_at c.args.i c.link_after.new.self.lists) c.link_after.ensures.list c.in-Some.ensures.found

pub returns-in-Some-clause-in_order : goal.returns-in-Some-clause-in_order
returns-in-Some-clause-in_order g c = λ cmp is was.
    let v = c.args.self.now in let s = list_at c.args.i v.lists in let t = list_at c.args.i c.link_after.new.self.lists in let by = g.O.Order.compares_by c.args.order.now in
    subst (λ n. IsInOrder cmp n t) (sym c.link_after.ensures.nodes)
    (put_in_order cmp v.nodes (g.met.O.Order.lawful c.args.order.now cmp is) c.args.at by s t (returns-in-Some-clause-list g c) is was)

pub returns-in-None-clause-list : goal.returns-in-None-clause-list
returns-in-None-clause-list g c =
    let v = c.args.self.now in let s = list_at c.args.i v.lists in let by = g.O.Order.compares_by c.args.order.now in
    put_first by v.nodes c.args.at s c.in-None.ensures.after (list_at c.args.i c.link_front.new.self.lists) c.link_front.ensures.list

pub returns-in-None-clause-in_order : goal.returns-in-None-clause-in_order
returns-in-None-clause-in_order g c = λ cmp is was.
    let v = c.args.self.now in let s = list_at c.args.i v.lists in let t = list_at c.args.i c.link_front.new.self.lists in let by = g.O.Order.compares_by c.args.order.now in
    subst (λ n. IsInOrder cmp n t) (sym c.link_front.ensures.nodes)
    (put_in_order cmp v.nodes (g.met.O.Order.lawful c.args.order.now cmp is) c.args.at by s t (returns-in-None-clause-list g c) is was)
