use Rattle.std.proofs.Common.{◌≡◌, Option, Some, None, MatchOption, sym, subst, ◌∙◌}
use Rattle.cordyceps_uses.specs.Keyed.{HasAt}
use Rattle.cordyceps_uses.specs.TaskTable.{running, shown}
use Rattle.cordyceps_uses.proofs.Tabled.{none_runs, is_ready, is_waiting, is_running}
use Rattle.cordyceps_uses.proofs.task_table.running_spot.Goals as goal

pub returns-in_err-at-clause-found : goal.returns-in_err-at-clause-found
returns-in_err-at-clause-found g c =
    let m = c.args.map.now in
    subst (λ (o : Option _). MatchOption o (running c.args.pid (shown m) ≡ None) (λ p. HasAt m (λ x. running c.args.pid (shown m) ≡ Some x) p)) (sym c.from_residual.ensures)
    (none_runs m c.lists_agree.ensures c.args.pid c.in_err-at.ensures.found)

pub returns-then-is_linked-clause-found : goal.returns-then-is_linked-clause-found
returns-then-is_linked-clause-found g c = (is_ready c.args.map.now c.lists_agree.ensures c.args.pid c.in_ok-at.at c.in_ok-at.ensures.found (sym c.is_linked.ensures ∙ c.if-is_linked.true)).1

pub returns-then-is_linked-2-clause-found : goal.returns-then-is_linked-2-clause-found
returns-then-is_linked-2-clause-found g c =
    (is_waiting c.args.map.now c.lists_agree.ensures c.args.pid c.in_ok-at.at c.in_ok-at.ensures.found (sym c.is_linked.ensures ∙ c.if-is_linked.false) (sym c.is_linked-2.ensures ∙ c.if-is_linked-2.true)).1

pub returns-clause-found : goal.returns-clause-found
returns-clause-found g c =
    let a = c.in_ok-at.ensures.found in
    let r = is_running c.args.map.now c.lists_agree.ensures c.args.pid c.in_ok-at.at a (sym c.is_linked.ensures ∙ c.if-is_linked.false) (sym c.is_linked-2.ensures ∙ c.if-is_linked-2.false) in
    record { entry = a.entry; value = a.value; holds = r.1 }
