use Rattle.std.proofs.Common.{length, arith, sym, ap, ◌∙◌}
use Rattle.cordyceps_many.specs.Entries.{entries_at, from_place}
use Rattle.cordyceps_many.specs.MultiList.{list_at}
use Rattle.cordyceps_many.proofs.Entered.{next_entries}
use Rattle.cordyceps_many.proofs.iter.IterIterator.next.Goals as goal

pub overflow_sub-self : goal.overflow_sub-self
overflow_sub-self g c =
    let i = c.self.inside in let nodes = i.lists.now.nodes in let s = list_at i.list i.lists.now.lists in let agree = c.lists_agree.ensures in
    let steps = ap (λ o. entries_at nodes (from_place o s)) c.in-Some.is
    ∙ next_entries nodes s c.in-Some.at c.get-value.result.now agree.distinct (agree.once i.list) c.get-value.ensures c.next-self-inside.result c.next-self-inside.ensures.step in
    let one = ap length steps in let count = c.self.invariant.count in
    omega (arith, one, count)

pub invariant_of-self : goal.invariant_of-self
invariant_of-self g c =
    let i = c.self.inside in let nodes = i.lists.now.nodes in let s = list_at i.list i.lists.now.lists in let agree = c.lists_agree.ensures in
    let steps = ap (λ o. entries_at nodes (from_place o s)) c.in-Some.is
    ∙ next_entries nodes s c.in-Some.at c.get-value.result.now agree.distinct (agree.once i.list) c.get-value.ensures c.next-self-inside.result c.next-self-inside.ensures.step in
    let one = ap length steps in let count = c.self.invariant.count in
    record { within = c.self.invariant.within; there = c.next-self-inside.ensures.in_list; count = omega (arith, one, count) }

pub returns-clause-steps : goal.returns-clause-steps
returns-clause-steps g c =
    let i = c.self.inside in let nodes = i.lists.now.nodes in let s = list_at i.list i.lists.now.lists in let agree = c.lists_agree.ensures in
    sym c.self.view_is ∙ ap (λ o. entries_at nodes (from_place o s)) c.in-Some.is
    ∙ next_entries nodes s c.in-Some.at c.get-value.result.now agree.distinct (agree.once i.list) c.get-value.ensures c.next-self-inside.result c.next-self-inside.ensures.step

pub returns-clause-goes : goal.returns-clause-goes
returns-clause-goes g c = let e = ap length (returns-clause-steps g c) in record { on = λ f. (tt, f, omega (arith, e)); keeps = tt; rests = λ f. tt }
