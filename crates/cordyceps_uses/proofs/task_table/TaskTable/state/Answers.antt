use Rattle.std.proofs.Common.{ap, sym, ◌∙◌}
use Rattle.cordyceps_uses.specs.TaskTable.{state}
use Rattle.cordyceps_uses.proofs.Tabled.{no_state, is_ready, is_waiting, is_running}
use Rattle.cordyceps_uses.proofs.task_table.TaskTable.state.Goals as goal

pub returns-in_err-at : goal.returns-in_err-at
returns-in_err-at g c = c.from_residual.ensures ∙ sym (no_state c.self.inside.map c.lists_agree.ensures c.args.pid c.in_err-at.ensures.found) ∙ ap (state c.args.pid) c.self.view_is

pub returns-then-is_linked : goal.returns-then-is_linked
returns-then-is_linked g c =
    sym (is_ready c.self.inside.map c.lists_agree.ensures c.args.pid c.in_ok-at.at c.in_ok-at.ensures.found (sym c.is_linked.ensures ∙ c.if-is_linked.true)).0 ∙ ap (state c.args.pid) c.self.view_is

pub returns-then-is_linked-2 : goal.returns-then-is_linked-2
returns-then-is_linked-2 g c =
    sym (is_waiting c.self.inside.map c.lists_agree.ensures c.args.pid c.in_ok-at.at c.in_ok-at.ensures.found (sym c.is_linked.ensures ∙ c.if-is_linked.false) (sym c.is_linked-2.ensures ∙ c.if-is_linked-2.true)).0 ∙ ap (state c.args.pid) c.self.view_is

pub returns : goal.returns
returns g c =
    sym (is_running c.self.inside.map c.lists_agree.ensures c.args.pid c.in_ok-at.at c.in_ok-at.ensures.found (sym c.is_linked.ensures ∙ c.if-is_linked.false) (sym c.is_linked-2.ensures ∙ c.if-is_linked-2.false)).0 ∙ ap (state c.args.pid) c.self.view_is
