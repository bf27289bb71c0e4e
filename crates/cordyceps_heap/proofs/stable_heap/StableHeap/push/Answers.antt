use Rattle.std.proofs.Common.{◌≡◌, [], ◌∷◌, ◌++◌, ap, sym, ◌∙◌, subst}
use Rattle.std.specs.List.Sorted.{IsPermutation}
use denote.RawPtr.{Ptr}
use Rattle.cordyceps_base.specs.DoubleLines.{flat}
use Rattle.cordyceps_base.specs.Element.{Element}
use Rattle.cordyceps_heap.specs.Heap.{Heaped, Holds, settled}
use Rattle.cordyceps_heap.proofs.Kept.{joined_keeps, pushed_has, pushed_new}
use Rattle.cordyceps_heap.proofs.Settled.{holds_more, kept_with, one_longer, settled_distinct}
use Rattle.cordyceps_heap.proofs.stable_heap.StableHeap.push.Goals as goal

pub returns-clause-arrivals : goal.returns-clause-arrivals
returns-clause-arrivals g c = λ cmp a by h.
    let view = ap (λ (s : Heaped g.row.T.Denot g.row.O.Denot). s.lines) c.self.view_is in
    let x : Ptr × Element g.row.T.Denot = (c.spot_at.result, g.T.Linked.element c.args.handle) in
    let line : c.one-line.result.1 ≡ x ∷ [] = c.one-line.ensures ∙ (λ i. (sym c.spot_at.ensures i, c.into_ptr.ensures i) ∷ []) in
    holds_more cmp (settled c.self.inside.ranked.lines) (settled c.add_fresh.new.self.lines) c.one-line.result.1 x a c.add_fresh.ensures.added line (subst (λ s. Holds cmp s a) (sym view) h)

pub returns-clause-kept : goal.returns-clause-kept
returns-clause-kept g c =
    let view = ap (λ (s : Heaped g.row.T.Denot g.row.O.Denot). s.lines) c.self.view_is in
    let x : Ptr × Element g.row.T.Denot = (c.spot_at.result, g.T.Linked.element c.args.handle) in
    let line : c.one-line.result.1 ≡ x ∷ [] = c.one-line.ensures ∙ (λ i. (sym c.spot_at.ensures i, c.into_ptr.ensures i) ∷ []) in
    subst (λ s. IsPermutation (flat s ++ x ∷ []) (flat (settled c.add_fresh.new.self.lines))) view
    (kept_with (settled c.self.inside.ranked.lines) (settled c.add_fresh.new.self.lines) c.one-line.result.1 x c.add_fresh.ensures.added line)

pub returns-clause-distinct : goal.returns-clause-distinct
returns-clause-distinct g c = settled_distinct c.add_fresh.new.self.lines c.are_distinct.ensures

pub invariant_of-self : goal.invariant_of-self
invariant_of-self g c = (
  one_longer (settled c.self.inside.ranked.lines) (settled c.add_fresh.new.self.lines) c.one-line.result.1 _ c.self.inside.len c.add_fresh.ensures.added c.one-line.ensures c.self.invariant.0,
  c.add_fresh.ensures.fresh,
)

pub returns-clause-there : goal.returns-clause-there
returns-clause-there g c =
    pushed_has (flat c.args.self.now.lines) (flat (settled c.add_fresh.new.self.lines)) c.spot_at.result (g.T.Linked.element c.args.handle)
    (returns-clause-kept g c)

pub returns-clause-spots_kept : goal.returns-clause-spots_kept
returns-clause-spots_kept g c p has =
    joined_keeps (flat c.args.self.now.lines) ((c.spot_at.result, g.T.Linked.element c.args.handle) ∷ []) (flat (settled c.add_fresh.new.self.lines)) p
    (returns-clause-kept g c) has

pub returns-clause-apart : goal.returns-clause-apart
returns-clause-apart g c =
    pushed_new (flat c.args.self.now.lines) (flat (settled c.add_fresh.new.self.lines)) c.spot_at.result (g.T.Linked.element c.args.handle)
    (returns-clause-kept g c) (returns-clause-distinct g c)
