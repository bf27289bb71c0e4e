use Rattle.std.proofs.Common.{◌≡◌, ◌++◌, length, ap, sym, ◌∙◌, subst}
use Rattle.std.specs.List.Sorted.{IsPermutation}
use Rattle.std.proofs.lemmas.List.Sorted.{length_permutation, IsPermutation-trans, IsPermutation-append}
use Rattle.cordyceps_base.specs.DoubleLines.{flat}
use Rattle.cordyceps_base.specs.Nodes.{Nodes}
use Rattle.cordyceps_heap.specs.Heap.{Heaped, Holds, settled}
use Rattle.cordyceps_heap.proofs.Kept.{joined_keeps, taken_over}
use Rattle.cordyceps_heap.proofs.Said.{as_long}
use Rattle.cordyceps_heap.proofs.Settled.{has_last, none_fresh, settled_distinct}
use Rattle.cordyceps_heap.proofs.stable_heap.StableHeap.append.Goals as goal

pub returns-clause-arrivals : goal.returns-clause-arrivals
returns-clause-arrivals g c = λ cmp a b by h k.
    let view = ap (λ (s : Heaped g.row.T.Denot g.row.O.Denot). s.lines) c.self.view_is in let there = ap (λ (s : Heaped g.row.T.Denot g.row.O.Denot). s.lines) c.other.view_is in
    let asked = subst (λ (s : Heaped g.row.T.Denot g.row.O.Denot). g.O.Order.compares_by s.order cmp) (sym c.self.view_is) by in
    let now : settled c.push-2.new.self ≡ c.with_line.new.self.lines = none_fresh c.push-2.new.self c.with_line.new.self.lines c.empty-2.result c.push-2.ensures c.empty-2.ensures in
    let mine = c.settle-2.ensures.arrivals cmp a asked (subst (λ s. Holds cmp s a) (sym view) h) in
    let others = c.settle.ensures.arrivals cmp b asked (subst (λ s. Holds cmp s b) (sym there) k) in
    subst (λ s. Holds cmp s (a ++ b)) (sym now) (c.with_line.ensures.arrivals cmp a b asked mine (c.one_line-all.ensures.arrivals cmp b asked others))

pub returns-clause-kept : goal.returns-clause-kept
returns-clause-kept g c =
    let view = ap (λ (s : Heaped g.row.T.Denot g.row.O.Denot). s.lines) c.self.view_is in let there = ap (λ (s : Heaped g.row.T.Denot g.row.O.Denot). s.lines) c.other.view_is in
    let mine = flat (settled c.self.inside.ranked.lines) in let others = flat (settled c.other.inside.ranked.lines) in let all : Nodes g.row.T.Denot = c.one_line-all.result.0 in
    let now : settled c.push-2.new.self ≡ c.with_line.new.self.lines = none_fresh c.push-2.new.self c.with_line.new.self.lines c.empty-2.result c.push-2.ensures c.empty-2.ensures in
    let one = IsPermutation-trans others (flat c.settle.new.self.lines) all c.settle.ensures.kept c.one_line-all.ensures.kept in
    let joined = IsPermutation-trans (mine ++ others) (flat c.settle-2.new.self.lines ++ all) (flat c.with_line.new.self.lines) (IsPermutation-append mine (flat c.settle-2.new.self.lines) others all c.settle-2.ensures.kept one) c.with_line.ensures.kept in
    subst (λ s. IsPermutation s (flat (settled c.push-2.new.self))) (λ i. flat (view i) ++ flat (there i)) (subst (λ s. IsPermutation (mine ++ others) (flat s)) (sym now) joined)

pub returns-clause-emptied : goal.returns-clause-emptied
returns-clause-emptied g c = none_fresh c.push.new.self c.one_line-all.new.self.lines c.empty.result c.push.ensures c.empty.ensures ∙ c.one_line-all.ensures.emptied

pub returns-clause-distinct : goal.returns-clause-distinct
returns-clause-distinct g c = settled_distinct c.push-2.new.self c.are_distinct.ensures

pub invariant_of-self : goal.invariant_of-self
invariant_of-self g c =
    let mine = flat (settled c.self.inside.ranked.lines) in let others = flat (settled c.other.inside.ranked.lines) in let all : Nodes g.row.T.Denot = c.one_line-all.result.0 in
    let now : settled c.push-2.new.self ≡ c.with_line.new.self.lines = none_fresh c.push-2.new.self c.with_line.new.self.lines c.empty-2.result c.push-2.ensures c.empty-2.ensures in
    let one = IsPermutation-trans others (flat c.settle.new.self.lines) all c.settle.ensures.kept c.one_line-all.ensures.kept in (
      as_long (flat c.settle-2.new.self.lines) (flat c.with_line.new.self.lines) all c.self.inside.len c.other.inside.len c.with_line.ensures.kept
          (c.self.invariant.0 ∙ sym (length_permutation mine (flat c.settle-2.new.self.lines) c.settle-2.ensures.kept))
          (c.other.invariant.0 ∙ sym (length_permutation others all one))
          ∙ ap (λ s. length (flat s)) (sym now),
      has_last c.push-2.new.self c.with_line.new.self.lines c.empty-2.result c.push-2.ensures c.with_line.ensures.room,
    )

pub returns-clause-spots_kept : goal.returns-clause-spots_kept
returns-clause-spots_kept g c p has =
    joined_keeps (flat c.args.self.now.lines) (flat c.args.other.now.lines) (flat (settled c.push-2.new.self)) p
    (returns-clause-kept g c) has

pub returns-clause-taken_over : goal.returns-clause-taken_over
returns-clause-taken_over g c p has =
    taken_over (flat c.args.self.now.lines) (flat c.args.other.now.lines) (flat (settled c.push-2.new.self)) p
    (returns-clause-kept g c) has
