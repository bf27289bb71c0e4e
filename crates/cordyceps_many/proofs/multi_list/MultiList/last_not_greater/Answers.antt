use Rattle.std.proofs.Common.{ap, sym, ◌∙◌, subst, true, false, arith}
use Rattle.std.specs.Ordering.{is_gt}
use Rattle.cordyceps_many.specs.InOrder.{AreGreaterAfter}
use Rattle.cordyceps_many.specs.MultiList.{list_at}
use Rattle.cordyceps_many.proofs.Placed.{nodes_to, nearer, told, walk_starts, walk_in, walk_goes}
use Rattle.cordyceps_many.proofs.multi_list.MultiList.last_not_greater.Goals as goal

pub loop-place-init : goal.loop-place-init
loop-place-init g c =
    let v = c.args.self.now in let s = list_at c.args.i v.lists in
    walk_starts (g.O.Order.compares_by c.args.order.now) v.nodes c.args.at s c.back-place.result c.back-place.ensures.last

pub get-requires : goal.get-requires
get-requires g c =
    let v = c.args.self.now in let s = list_at c.args.i v.lists in let by = g.O.Order.compares_by c.args.order.now in
    let w = subst (AreGreaterAfter by v.nodes c.args.at s) c.in-Some.is c.loop-place.invariant in
    c.lists_agree.ensures.inside c.args.i c.in-Some.other (walk_in by v.nodes c.args.at s c.in-Some.other w)

pub returns-then-not-is_gt-clause-found : goal.returns-then-not-is_gt-clause-found
returns-then-not-is_gt-clause-found g c = λ cmp by.
    told c.args.self.now.nodes c.lists_agree.ensures.distinct cmp c.in-Some.other c.args.at c.get.result.now c.get-value.result.now false c.get.ensures c.get-value.ensures
    (sym (ap is_gt (c.compare.ensures cmp by)) ∙ sym c.is_gt.ensures ∙ c.if-not-is_gt.true)

pub returns-then-not-is_gt-clause-in_list : goal.returns-then-not-is_gt-clause-in_list
returns-then-not-is_gt-clause-in_list g c =
    let v = c.args.self.now in let s = list_at c.args.i v.lists in let by = g.O.Order.compares_by c.args.order.now in
    let w = subst (AreGreaterAfter by v.nodes c.args.at s) c.in-Some.is c.loop-place.invariant in
    walk_in by v.nodes c.args.at s c.in-Some.other w

pub prev-place-requires-clause-in_list : goal.prev-place-requires-clause-in_list
prev-place-requires-clause-in_list g c =
    let v = c.args.self.now in let s = list_at c.args.i v.lists in let by = g.O.Order.compares_by c.args.order.now in
    let w = subst (AreGreaterAfter by v.nodes c.args.at s) c.in-Some.is c.loop-place.invariant in
    walk_in by v.nodes c.args.at s c.in-Some.other w

pub loop-place-smaller : goal.loop-place-smaller
loop-place-smaller g c =
    let s = list_at c.args.i c.args.self.now.lists in
    let less = nearer s c.in-Some.other c.prev-place.result (c.lists_agree.ensures.once c.args.i) c.prev-place.ensures.step in
    let is = ap (λ o. nodes_to o s) c.in-Some.is in
    omega (arith, less, is)

pub loop-place-preserved : goal.loop-place-preserved
loop-place-preserved g c =
    let v = c.args.self.now in let s = list_at c.args.i v.lists in let by = g.O.Order.compares_by c.args.order.now in
    let w = subst (AreGreaterAfter by v.nodes c.args.at s) c.in-Some.is c.loop-place.invariant in
    walk_goes by v.nodes c.args.at s (c.lists_agree.ensures.once c.args.i) c.in-Some.other w c.prev-place.result c.prev-place.ensures.step
    (λ cmp is. told v.nodes c.lists_agree.ensures.distinct cmp c.in-Some.other c.args.at c.get.result.now c.get-value.result.now true c.get.ensures c.get-value.ensures
    (sym (ap is_gt (c.compare.ensures cmp is)) ∙ sym c.is_gt.ensures ∙ c.if-not-is_gt.false))
