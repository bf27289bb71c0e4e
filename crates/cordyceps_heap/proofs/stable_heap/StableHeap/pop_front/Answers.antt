use Rattle.std.proofs.Common.{◌≡◌, ◌∷◌, length, refl, ap, sym, ◌∙◌, subst, arith}
use Rattle.std.specs.List.Sorted.{IsPermutation}
use Rattle.cordyceps_base.specs.DoubleLines.{flat}
use Rattle.cordyceps_base.proofs.Segments.{sole_element}
use Rattle.cordyceps_heap.specs.Heap.{Heaped, Holds, settled}
use Rattle.cordyceps_heap.proofs.Held.{taken_flat}
use Rattle.cordyceps_heap.proofs.Kept.{popped_keeps}
use Rattle.cordyceps_base.proofs.LineSpots.{first_is_taken}
use Rattle.cordyceps_heap.proofs.Least.{least_there, least_out}
use Rattle.cordyceps_heap.proofs.Said.{first_said}
use Rattle.cordyceps_heap.proofs.Settled.{as_many, has_last, none_fresh, one_shorter, settled_distinct, taken_kept}
use Rattle.cordyceps_heap.proofs.stable_heap.StableHeap.pop_front.Goals as goal

pub take_first-one-requires-clause-some : goal.take_first-one-requires-clause-some
take_first-one-requires-clause-some g c =
    let s = c.settle_for_least-line.ensures.least in
    (s.first, s.others, least_there _ c.settle_for_least-line.new.self.lines c.settle_for_least-line.result s)

pub push-requires : goal.push-requires
push-requires g c =
    let (p, e, one, out) = c.take_first-one.ensures in let sorted = c.settle_for_least-line.new.self.lines in let left = c.take_first-one.new.self in let k = c.settle_for_least-line.result in
    let n = as_many sorted left p e (first_is_taken sorted left k p e out) in let room = c.settle_for_least-line.ensures.room in omega (arith, n, room)

pub invariant_of-self : goal.invariant_of-self
invariant_of-self g c =
    let (p, e, one, out) = c.take_first-one.ensures in let sorted = c.settle_for_least-line.new.self.lines in let left = c.take_first-one.new.self in let k = c.settle_for_least-line.result in
    let gone = first_is_taken sorted left k p e out in let n = as_many sorted left p e gone in let room = c.settle_for_least-line.ensures.room in
    let now : settled c.push.new.self ≡ left = none_fresh c.push.new.self left c.empty.result c.push.ensures c.empty.ensures in
    let kept = taken_kept (flat (settled c.self.inside.ranked.lines)) (flat sorted) (flat left) p e c.settle_for_least-line.ensures.kept (taken_flat sorted left p e gone) in (
      one_shorter (flat (settled c.self.inside.ranked.lines)) (flat left) (p, e) c.self.inside.len kept c.self.invariant.0 ∙ ap (λ s. length (flat s)) (sym now),
      has_last c.push.new.self left c.empty.result c.push.ensures (omega (arith, n, room)),
    )

pub returns-clause-distinct : goal.returns-clause-distinct
returns-clause-distinct g c = settled_distinct c.push.new.self c.are_distinct-2.ensures

pub returns-clause-taken : goal.returns-clause-taken
returns-clause-taken g c =
    let view = ap (λ (s : Heaped g.row.T.Denot g.row.O.Denot). s.lines) c.self.view_is in
    let (p, e, one, out) = c.take_first-one.ensures in let sorted = c.settle_for_least-line.new.self.lines in let left = c.take_first-one.new.self in let k = c.settle_for_least-line.result in
    let (q, only) = c.only.ensures in let o = g.T.Linked.element c.from_ptr.result in
    let same = sole_element c.take_first-one.result p q e c.only.result one only ∙ sym c.from_ptr.ensures in
    let gone = first_said sorted sorted left left k p e o refl same refl out in
    let now : settled c.push.new.self ≡ left = none_fresh c.push.new.self left c.empty.result c.push.ensures c.empty.ensures in
    let kept = taken_kept (flat (settled c.self.inside.ranked.lines)) (flat sorted) (flat left) p o c.settle_for_least-line.ensures.kept (taken_flat sorted left p o (first_is_taken sorted left k p o gone)) in (
      p,
      subst (λ s. IsPermutation (flat s) ((p, o) ∷ flat (settled c.push.new.self))) view (subst (λ s. IsPermutation (flat (settled c.self.inside.ranked.lines)) ((p, o) ∷ flat s)) (sym now) kept),
      λ cmp a by h.
          let asked = subst (λ (s : Heaped g.row.T.Denot g.row.O.Denot). g.O.Order.compares_by s.order cmp) (sym c.self.view_is) by in
          let held = c.settle_for_least-line.ensures.arrivals cmp a asked (subst (λ s. Holds cmp s a) (sym view) h) in
          let (rest, (first, on)) = least_out (λ f. g.O.Order.compares_by c.self.inside.order f) cmp (g.met.O.Order.lawful c.args.self.now.order cmp by) asked sorted left k p o a c.settle_for_least-line.ensures.least gone held in
          (rest, (first, subst (λ s. Holds cmp s rest) (sym now) on)),
    )

pub returns-clause-spots_kept : goal.returns-clause-spots_kept
returns-clause-spots_kept g c p has =
    let (spot, kept, _) = returns-clause-taken g c in
    popped_keeps (flat c.args.self.now.lines) (flat (settled c.push.new.self)) spot p
    (g.T.Linked.element c.from_ptr.result) kept has
