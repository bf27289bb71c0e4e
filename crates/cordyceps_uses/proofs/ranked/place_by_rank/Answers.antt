use Rattle.std.proofs.Common.{◌<◌, ◌≤◌, sym, subst, ap, ◌∙◌}
use Rattle.cordyceps.specs.Spots.MultiList.{list_at}
use Rattle.cordyceps_uses.proofs.Placing.{to_go, fewer, gone_on}
use Rattle.cordyceps_uses.proofs.ranked.place_by_rank.Goals as goal

pub returns-then-rank-most-clause-least : goal.returns-then-rank-most-clause-least
returns-then-rank-most-clause-least g c =
    let r = g.V.Ranked.rank in let x = c.value_of.ensures in
    record { entry = x.entry; value = x.value; holds = subst (λ u. u ≤ c.args.most) (c.rank.ensures ∙ ap r (sym x.holds)) c.if-rank-most.true }

pub loop-at-smaller : goal.loop-at-smaller
loop-at-smaller g c =
    let l = list_at c.args.i c.args.map.now.lists in
    subst (λ o. to_go l c.prev-at.result < to_go l o) (sym c.in-Some.is)
    (fewer l c.in-Some.spot c.prev-at.result (c.lists_agree.ensures.once c.args.i) c.prev-at.ensures.step)

pub loop-at-preserved : goal.loop-at-preserved
loop-at-preserved g c =
    let r = g.V.Ranked.rank in let m = c.args.map.now in let x = c.value_of.ensures in
    record {
      place = gone_on r m.nodes (list_at c.args.i m.lists) c.args.most c.in-Some.spot x.entry x.value
          (subst (λ u. c.args.most < u) (c.rank.ensures ∙ ap r (sym x.holds)) c.if-rank-most.false) c.requires.sorted c.prev-at.result c.prev-at.ensures.step;
      there = c.prev-at.ensures.there;
      in_list = c.prev-at.ensures.in_list;
    }
