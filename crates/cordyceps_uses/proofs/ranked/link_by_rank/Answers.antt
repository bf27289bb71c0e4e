use Rattle.std.proofs.Common.{◌≤◌, suc, ap, subst, sym, ◌∙◌}
use Rattle.cordyceps.specs.Spots.MultiList.{list_at}
use Rattle.cordyceps_uses.specs.Keyed.{HasAt, IsPassed, AreFrom, order}
use Rattle.cordyceps_uses.proofs.Placing.{linked_after, linked_front}
use Rattle.cordyceps_uses.proofs.ranked.link_by_rank.Goals as goal

pub returns-in-Some : goal.returns-in-Some
returns-in-Some g c =
    let r = g.V.Ranked.rank in let m = c.args.map.now in let i = c.args.i in let x = c.value_of.ensures in let a = c.link_after.ensures in let p = c.in-Some.before in
    let is = c.rank.ensures ∙ ap r (sym x.holds) in
    linked_after r i m c.link_after.new.self c.args.at x.entry x.value a.nodes a.others.lists p (c.lists_agree.ensures.once i) c.requires.sorted
    (subst (λ u. IsPassed r m.nodes (list_at i m.lists) (suc u) p) is c.in-Some.ensures.place)
    (subst (λ u. HasAt m (λ y. r y.1 ≤ u) p) is c.in-Some.ensures.least) a.list

pub returns-in-None : goal.returns-in-None
returns-in-None g c =
    let r = g.V.Ranked.rank in let m = c.args.map.now in let i = c.args.i in let x = c.value_of.ensures in let a = c.link_front.ensures in
    linked_front r i m c.link_front.new.self c.args.at x.entry x.value a.nodes a.others.lists
    (subst (λ u. AreFrom r (suc u) (order i m)) (c.rank.ensures ∙ ap r (sym x.holds)) c.in-None.ensures.place) a.list
