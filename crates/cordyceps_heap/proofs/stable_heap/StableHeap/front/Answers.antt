use Rattle.std.proofs.Common.{◌≡◌, ◌∷◌, slice_get, Some, length, ap, sym, ◌∙◌, subst}
use Rattle.std.specs.List.Sorted.{IsPermutation}
use Rattle.std.proofs.lemmas.List.Sorted.{length_permutation}
use Rattle.cordyceps_base.specs.DoubleLines.{flat}
use Rattle.cordyceps_stable.specs.Agreeing.{HasElementAt}
use Rattle.cordyceps_stable.proofs.Holding.{spot_is_at}
use Rattle.cordyceps_heap.specs.Heap.{Heaped, Holds, settled}
use Rattle.cordyceps_heap.proofs.Kept.{permuted_has}
use Rattle.cordyceps_heap.proofs.Least.{least_there, least_first}
use Rattle.cordyceps_heap.proofs.Said.{first_is_at}
use Rattle.cordyceps_heap.proofs.Settled.{has_last, none_fresh, settled_distinct}
use Rattle.cordyceps_heap.proofs.stable_heap.StableHeap.front.Goals as goal

pub first-first-requires-clause-some : goal.first-first-requires-clause-some
first-first-requires-clause-some g c =
    let s = c.settle_for_least-line.ensures.least in (s.first, s.others, least_there _ c.settle_for_least-line.new.self.lines c.settle_for_least-line.result s)

pub invariant_of-self : goal.invariant_of-self
invariant_of-self g c =
    let sorted = c.settle_for_least-line.new.self.lines in
    let now : settled c.push.new.self ≡ sorted = none_fresh c.push.new.self sorted c.empty.result c.push.ensures c.empty.ensures in (
      c.self.invariant.0 ∙ sym (ap (λ s. length (flat s)) now ∙ length_permutation (flat (settled c.self.inside.ranked.lines)) (flat sorted) c.settle_for_least-line.ensures.kept),
      has_last c.push.new.self sorted c.empty.result c.push.ensures c.settle_for_least-line.ensures.room,
    )

pub returns-clause-first : goal.returns-clause-first
returns-clause-first g c =
    let view = ap (λ (s : Heaped g.row.T.Denot g.row.O.Denot). s.lines) c.self.view_is in
    let sorted = c.settle_for_least-line.new.self.lines in let k = c.settle_for_least-line.result in let p = c.spot_at.result in
    let now : settled c.push.new.self ≡ sorted = none_fresh c.push.new.self sorted c.empty.result c.push.ensures c.empty.ensures in
    let (e, l, at) = c.first-first.ensures in
    let there = subst (λ q. slice_get sorted k ≡ Some ((q, e) ∷ l)) (sym c.spot_at.ensures) at in (
      e,
      subst (λ ls. HasElementAt (flat ls) p e) (sym now) (first_is_at sorted k p e l there),
      λ cmp a by h.
          let asked = subst (λ (s : Heaped g.row.T.Denot g.row.O.Denot). g.O.Order.compares_by s.order cmp) (sym c.self.view_is) by in
          let held = c.settle_for_least-line.ensures.arrivals cmp a asked (subst (λ s. Holds cmp s a) (sym view) h) in
          least_first (λ f. g.O.Order.compares_by c.self.inside.order f) cmp (g.met.O.Order.lawful c.args.self.now.order cmp by) asked sorted k p e l a c.settle_for_least-line.ensures.least there held,
    )

pub returns-clause-arrivals : goal.returns-clause-arrivals
returns-clause-arrivals g c = λ cmp a by h.
    let view = ap (λ (s : Heaped g.row.T.Denot g.row.O.Denot). s.lines) c.self.view_is in
    let sorted = c.settle_for_least-line.new.self.lines in
    let now : settled c.push.new.self ≡ sorted = none_fresh c.push.new.self sorted c.empty.result c.push.ensures c.empty.ensures in
    let asked = subst (λ (s : Heaped g.row.T.Denot g.row.O.Denot). g.O.Order.compares_by s.order cmp) (sym c.self.view_is) by in
    subst (λ s. Holds cmp s a) (sym now) (c.settle_for_least-line.ensures.arrivals cmp a asked (subst (λ s. Holds cmp s a) (sym view) h))

pub returns-clause-kept : goal.returns-clause-kept
returns-clause-kept g c =
    let view = ap (λ (s : Heaped g.row.T.Denot g.row.O.Denot). s.lines) c.self.view_is in
    let sorted = c.settle_for_least-line.new.self.lines in
    let now : settled c.push.new.self ≡ sorted = none_fresh c.push.new.self sorted c.empty.result c.push.ensures c.empty.ensures in
    subst (λ s. IsPermutation (flat s) (flat (settled c.push.new.self))) view (subst (λ s. IsPermutation (flat (settled c.self.inside.ranked.lines)) (flat s)) (sym now) c.settle_for_least-line.ensures.kept)

pub returns-clause-distinct : goal.returns-clause-distinct
returns-clause-distinct g c = settled_distinct c.push.new.self c.are_distinct-2.ensures

pub returns-clause-there : goal.returns-clause-there
returns-clause-there g c =
    let (e, lies, _) = returns-clause-first g c in
    spot_is_at (flat (settled c.push.new.self)) c.spot_at.result e lies

pub returns-clause-spots_kept : goal.returns-clause-spots_kept
returns-clause-spots_kept g c p has =
    permuted_has (flat c.args.self.now.lines) (flat (settled c.push.new.self)) p (returns-clause-kept g c) has
