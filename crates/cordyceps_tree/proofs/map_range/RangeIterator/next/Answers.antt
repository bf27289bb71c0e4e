use Rattle.std.proofs.Common.{◌≡◌, true, false, Option, length, refl, sym, ap, ◌∙◌, arith}
use Rattle.std.specs.Ordering.{is_lt}
use denote.RawPtr.{Ptr}
use Rattle.cordyceps_stable.proofs.Reached.{next_spot}
use Rattle.cordyceps_tree.specs.TreeMaps.{until}
use Rattle.cordyceps_tree.specs.Walks.{walk_from}
use Rattle.cordyceps_tree.proofs.Ranges.{until_below, until_over, walk_here}
use Rattle.cordyceps_tree.proofs.Walks.{from_next}
use Rattle.cordyceps_tree.proofs.map_range.RangeIterator.next.Goals as goal

pub invariant_of-self : goal.invariant_of-self
invariant_of-self g c = next_spot _ c.in-Some.at _ c.next-self-inside.ensures

pub returns-then-is_below-clause-steps : goal.returns-then-is_below-clause-steps
returns-then-is_below-clause-steps g c =
    let cmp = g.K.Ord.cmp in let t = c.self.inside.tree.now in let high = c.self.inside.high.now in let at = c.in-Some.at in let w = c.get-pair.result.now in let next = c.next-self-inside.result in
    let below : is_lt (cmp w.0 high) ≡ true = ap is_lt (sym c.cmp.ensures) ∙ sym c.is_lt-is_below.ensures ∙ c.if-is_below.true in
    sym c.self.view_is ∙ ap (λ (o : Option Ptr). until cmp high (walk_from t o)) c.in-Some.is ∙ ap (until cmp high) (from_next t at w next c.spots_are_distinct.ensures c.get-pair.ensures c.next-self-inside.ensures)
    ∙ until_below cmp g.met.K.Ord.total high (at, w) (walk_from t next) below

pub returns-then-is_below-clause-goes : goal.returns-then-is_below-clause-goes
returns-then-is_below-clause-goes g c = let e = ap length (returns-then-is_below-clause-steps g c) in record { on = λ f. (tt, f, omega (arith, e)); keeps = tt; rests = λ f. tt }

pub returns-clause-steps : goal.returns-clause-steps
returns-clause-steps g c =
    let cmp = g.K.Ord.cmp in let t = c.self.inside.tree.now in let high = c.self.inside.high.now in let at = c.in-Some.at in let w = c.get-pair.result.now in
    let over : is_lt (cmp w.0 high) ≡ false = ap is_lt (sym c.cmp.ensures) ∙ sym c.is_lt-is_below.ensures ∙ c.if-is_below.false in
    let (s, is) = walk_here cmp g.met.K.Ord.total t at w c.spots_are_distinct.ensures c.get-pair.ensures in
    (sym c.self.view_is ∙ ap (λ (o : Option Ptr). until cmp high (walk_from t o)) c.in-Some.is ∙ ap (until cmp high) is ∙ until_over cmp g.met.K.Ord.total high (at, w) s over, refl)
