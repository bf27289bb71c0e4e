use Rattle.std.proofs.Common.{Some, option_map, slice_get, ap, sym, ◌∙◌}
use Rattle.cordyceps.specs.Spots.Entries.{value_at}
use Rattle.cordyceps_uses.specs.TaskTable.{Tasks}
use Rattle.cordyceps_uses.proofs.Tabled.{first_is}
use Rattle.cordyceps_uses.proofs.task_table.TaskTable.wake_first.Goals as goal

pub returns-clause-answer : goal.returns-clause-answer
returns-clause-answer g c =
    let m = c.self.inside.map in let n = c.number_at.ensures in
    let there = sym (ap (λ ns. value_at ns c.in_ok-at.at) c.make_ready.ensures.nodes) ∙ n.value in
    ap (λ k. Some k) (sym n.holds) ∙ sym (ap (λ o. option_map (λ x. x.0) o) (first_is m c.lists_agree.ensures 2 c.in_ok-at.at n.entry there c.in_ok-at.ensures.first))
    ∙ ap (λ (v : Tasks _). option_map (λ x. x.0) (slice_get v.waiting 0)) c.self.view_is
