use Rattle.std.proofs.Common.{length, sym, ap, ◌∙◌, arith}
use Rattle.cordyceps_stable.proofs.Reached.{next_spot}
use Rattle.cordyceps_tree.specs.Walks.{walk_from}
use Rattle.cordyceps_tree.proofs.Walks.{from_next}
use Rattle.cordyceps_tree.proofs.iter.IterIterator.next.Goals as goal

pub invariant_of-self : goal.invariant_of-self
invariant_of-self g c = next_spot _ c.in-Some.at _ c.next-self-inside.ensures

pub returns-clause-steps : goal.returns-clause-steps
returns-clause-steps g c =
    let t = c.self.inside.tree.now in
    sym c.self.view_is ∙ ap (walk_from t) c.in-Some.is ∙ from_next t c.in-Some.at c.get-value.result.now c.next-self-inside.result c.spots_are_distinct.ensures c.get-value.ensures c.next-self-inside.ensures

pub returns-clause-goes : goal.returns-clause-goes
returns-clause-goes g c = let e = ap length (returns-clause-steps g c) in record { on = λ f. (tt, f, omega (arith, e)); keeps = tt; rests = λ f. tt }
