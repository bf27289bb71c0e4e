use Rattle.std.proofs.Common.{◌≡◌, ℕ, ◌<◌, [], Option, MatchOption, sym, ◌∙◌, subst}
use denote.RawPtr.{Ptr}
use Rattle.cordyceps.specs.Spots.BySpot.{IsFirst}
use Rattle.cordyceps.specs.Spots.Walk.{nodes_from}
use Rattle.cordyceps.proofs.Spots.Walk.{next_nearer}
use Rattle.cordyceps_uses.specs.declared.job.Job.{Job}
use Rattle.cordyceps_uses.proofs.Best.{IsBest, on_from, best_first, best_stays, best_changes, best_taken, best_has, here_has}
use Rattle.cordyceps_uses.proofs.tour.take_least.Goals as goal
use Rattle.cordyceps_uses.proofs.tour.take_least.Goals.{then-get, else-get}

abbrev rank : Job → ℕ
rank job = job.rank

pub loop-at-init : goal.loop-at-init
loop-at-init c =
    let jobs = c.args.jobs.now in
    let best = c.in_ok-best.best in
    let cursor = c.cursor_front-cursor.result in
    let at = c.in_ok-best.ensures.spot in
    let first = subst (λ (o : Option Ptr). MatchOption o (jobs ≡ []) (λ p. IsFirst jobs p)) (sym at) c.cursor_front-cursor.ensures.spot in
    let same = c.cursor_front-cursor.ensures.nodes in
    let on = on_from rank jobs cursor.nodes cursor.spot c.move_next.new.self.spot best same at c.move_next.ensures.moved in
    (c.move_next.ensures.nodes ∙ same, best_first rank jobs best c.move_next.new.self.spot c.spots_are_distinct.ensures first on)

pub get-requires-in-Some : goal.get-requires-in-Some
get-requires-in-Some c = best_has rank c.args.jobs.now c.loop-at.cursor.spot c.loop-at.best c.loop-at.invariant.1

pub loop-at-smaller : goal.loop-at-smaller
loop-at-smaller c =
    let jobs = c.args.jobs.now in
    let at = c.in-Some.at in
    let is = c.in-Some.ensures.spot in
    let r = c.move_next-in-Some.new.self.spot in
    let best = subst (λ (o : Option Ptr). IsBest rank jobs o c.loop-at.best) (sym is) c.loop-at.invariant.1 in
    let on = on_from rank jobs c.loop-at.cursor.nodes c.loop-at.cursor.spot r at c.loop-at.invariant.0 is c.move_next-in-Some.ensures.moved in
    subst (λ (o : Option Ptr). nodes_from jobs r < nodes_from jobs o) is (next_nearer jobs at r c.spots_are_distinct.ensures (here_has rank jobs at c.loop-at.best best) on)

pub loop-at-preserved : goal.loop-at-preserved
loop-at-preserved c =
    let jobs = c.args.jobs.now in
    let at = c.in-Some.at in
    let is = c.in-Some.ensures.spot in
    let r = c.move_next-in-Some.new.self.spot in
    let best = subst (λ (o : Option Ptr). IsBest rank jobs o c.loop-at.best) (sym is) c.loop-at.invariant.1 in
    let on = on_from rank jobs c.loop-at.cursor.nodes c.loop-at.cursor.spot r at c.loop-at.invariant.0 is c.move_next-in-Some.ensures.moved in
    let v = c.get.result.now in
    let w = c.get-in-Some.result.now in (
      c.move_next-in-Some.ensures.nodes ∙ c.loop-at.invariant.0,
      elim c.if-get.branch [
        | then-get y ↦
            subst (λ (p : Ptr). IsBest rank jobs r p) (sym y.best-is) (best_changes rank jobs at c.loop-at.best r v w c.spots_are_distinct.ensures best c.get.ensures c.get-in-Some.ensures y.if-get.true on)
        | else-get n ↦
            subst (λ (p : Ptr). IsBest rank jobs r p) (sym n.best-is) (best_stays rank jobs at c.loop-at.best r v w c.spots_are_distinct.ensures best c.get.ensures c.get-in-Some.ensures n.if-get.false on)
      ],
    )

pub remove-requires : goal.remove-requires
remove-requires c = best_has rank c.args.jobs.now c.loop-at.cursor.spot c.loop-at.best c.loop-at.invariant.1

pub returns-clause-least : goal.returns-clause-least
returns-clause-least c =
    let jobs = c.args.jobs.now in
    let best = subst (λ (o : Option Ptr). IsBest rank jobs o c.loop-at.best) (sym c.in_default.ensures.spot) c.loop-at.invariant.1 in
    (c.loop-at.best, best_taken rank jobs c.remove.new.self c.loop-at.best c.remove.result c.spots_are_distinct.ensures best c.remove.ensures.taken)
