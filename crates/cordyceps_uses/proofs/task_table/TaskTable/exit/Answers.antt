use Rattle.std.proofs.Common.{◌≡◌, subst}
use Rattle.cordyceps_uses.specs.TaskTable.{Tasks, without_task}
use Rattle.cordyceps_uses.proofs.Tabled.{none_goes, left_table}
use Rattle.cordyceps_uses.proofs.task_table.TaskTable.exit.Goals as goal

pub returns-in_err-at-clause-left : goal.returns-in_err-at-clause-left
returns-in_err-at-clause-left g c = subst (λ (v : Tasks _). v ≡ without_task c.args.pid v) c.self.view_is (none_goes c.self.inside.map c.lists_agree.ensures c.args.pid c.in_err-at.ensures.found)

pub invariant_of-self : goal.invariant_of-self
invariant_of-self g c =
    let t = c.take_out.ensures in left_table c.self.inside.map c.lists_agree.ensures c.self.invariant c.in_ok-at.at c.take_out.result.value t.value c.take_out.new.map t
