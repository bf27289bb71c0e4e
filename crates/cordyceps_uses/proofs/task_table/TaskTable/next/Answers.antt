use Rattle.std.proofs.Common.{List, Some, drop, option_map, slice_get, ap, sym, ◌∙◌}
use Rattle.cordyceps.specs.Spots.Entries.{value_at}
use Rattle.cordyceps_uses.specs.TaskTable.{Entry, Tasks}
use Rattle.cordyceps_uses.proofs.Tabled.{first_ready, run_table}
use Rattle.cordyceps_uses.proofs.task_table.TaskTable.next.Goals as goal

pub invariant_of-self-2 : goal.invariant_of-self-2
invariant_of-self-2 g c =
    let m = c.self.inside.map in let n = c.number_at.ensures in let a = c.in_ok-at.ensures in
    let there = sym (ap (λ ns. value_at ns c.in_ok-at.at) a.nodes) ∙ n.value in
    run_table m c.lists_agree.ensures c.self.invariant c.in_ok-at.at n.entry there c.unlink_front.new.self a.nodes a.popped a.others.lists

pub returns-clause-answer : goal.returns-clause-answer
returns-clause-answer g c =
    let m = c.self.inside.map in let n = c.number_at.ensures in let a = c.in_ok-at.ensures in
    let there = sym (ap (λ ns. value_at ns c.in_ok-at.at) a.nodes) ∙ n.value in
    let is = first_ready m c.lists_agree.ensures c.self.invariant c.in_ok-at.at n.entry there c.unlink_front.new.self a.nodes a.popped in
    ap (λ k. Some k) (sym n.holds) ∙ sym (ap (λ (s : List (Entry _)). option_map (λ x. x.0) (slice_get s 0)) is)
    ∙ ap (λ (v : Tasks _). option_map (λ x. x.0) (slice_get v.ready 0)) c.self.view_is

pub returns-clause-left : goal.returns-clause-left
returns-clause-left g c =
    let m = c.self.inside.map in let n = c.number_at.ensures in let a = c.in_ok-at.ensures in
    let there = sym (ap (λ ns. value_at ns c.in_ok-at.at) a.nodes) ∙ n.value in
    let is = first_ready m c.lists_agree.ensures c.self.invariant c.in_ok-at.at n.entry there c.unlink_front.new.self a.nodes a.popped in
    sym (ap (drop 1) is) ∙ ap (λ (v : Tasks _). drop 1 v.ready) c.self.view_is
