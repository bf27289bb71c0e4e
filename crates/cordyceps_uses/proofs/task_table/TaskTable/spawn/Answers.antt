use Rattle.std.proofs.Common.{◌≡◌, None, subst}
use Rattle.cordyceps_uses.specs.Keyed.{order}
use Rattle.cordyceps_uses.specs.TaskTable.{Tasks, task, shown, IsSpawned}
use Rattle.cordyceps_uses.proofs.Tabled.{spawned}
use Rattle.cordyceps_uses.proofs.task_table.TaskTable.spawn.Goals as goal

pub returns-in-None-clause-spawned : goal.returns-in-None-clause-spawned
returns-in-None-clause-spawned g c =
    let absent = subst (λ k. task k (order 0 c.self.inside.map) ≡ None) c.key.ensures c.in-None.ensures.found in
    subst (λ (v : Tasks _). IsSpawned v c.args.node.value (shown c.make_ready.new.map)) c.self.view_is
    (spawned c.self.inside.map c.lists_agree.ensures c.put-at.result c.args.node.value c.put-at.new.map c.make_ready.new.map absent c.put-at.ensures.put c.make_ready.ensures.ready)
