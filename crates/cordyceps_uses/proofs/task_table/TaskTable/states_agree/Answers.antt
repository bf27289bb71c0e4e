use Rattle.std.proofs.Common.{◌≡◌, ℕ, Some, None, subst}
use Rattle.std.specs.Prelude.{IfSome, IsSome}
use Rattle.cordyceps_uses.specs.TaskTable.{Tasks, task}
use Rattle.cordyceps_uses.proofs.Tabled.{in_table, ready_apart}
use Rattle.cordyceps_uses.proofs.task_table.TaskTable.states_agree.Goals as goal

pub returns-clause-apart : goal.returns-clause-apart
returns-clause-apart g c = subst (λ (v : Tasks _). (pid : ℕ) → IsSome (task pid v.ready) → task pid v.waiting ≡ None) c.self.view_is (λ pid some. ready_apart c.self.inside.map c.lists_agree.ensures pid c.self.invariant some)

pub returns-clause-ready : goal.returns-clause-ready
returns-clause-ready g c = subst (λ (v : Tasks _). (pid : ℕ) → IfSome (task pid v.ready) (λ x. task pid v.tasks ≡ Some x)) c.self.view_is (λ pid. in_table c.self.inside.map c.lists_agree.ensures pid 1)

pub returns-clause-waiting : goal.returns-clause-waiting
returns-clause-waiting g c = subst (λ (v : Tasks _). (pid : ℕ) → IfSome (task pid v.waiting) (λ x. task pid v.tasks ≡ Some x)) c.self.view_is (λ pid. in_table c.self.inside.map c.lists_agree.ensures pid 2)
