use Rattle.std.proofs.Common.{◌≡◌, ◌++◌, length, ap, sym, ◌∙◌, subst, arith}
use Rattle.std.specs.List.Sorted.{IsPermutation}
use Rattle.std.proofs.lemmas.List.Sorted.{length_permutation, IsPermutation-trans}
use Rattle.cordyceps_base.specs.DoubleLines.{flat}
use Rattle.cordyceps_base.specs.Nodes.{Nodes, elements}
use Rattle.cordyceps_single.specs.Arrangement.{Represents}
use Rattle.cordyceps_stable.proofs.Arranged.{elements_represent}
use Rattle.cordyceps_heap.specs.Heap.{Heaped, Holds, settled}
use Rattle.cordyceps_heap.proofs.stable_heap.StableHeap.into_list.Goals as goal

pub append_line-requires : goal.append_line-requires
append_line-requires g c =
    let none = ap length c.new-list.ensures in
    let n = length_permutation (flat (settled c.self.inside.ranked.lines)) (flat c.settle.new.self.lines) c.settle.ensures.kept in let m = length_permutation (flat c.settle.new.self.lines) c.one_line-line.result.0 c.one_line-line.ensures.kept in
    let view = ap (λ (s : Heaped g.row.T.Denot g.row.O.Denot). length (flat s.lines)) c.self.view_is in
    let long = c.len-len.ensures in let fits = c.len-len.type_inv in omega (arith, none, n, m, view, long, fits)

pub returns-clause-arrangement : goal.returns-clause-arrangement
returns-clause-arrangement g c = λ cmp a by h.
    let view = ap (λ (s : Heaped g.row.T.Denot g.row.O.Denot). s.lines) c.self.view_is in
    let asked = subst (λ (s : Heaped g.row.T.Denot g.row.O.Denot). g.O.Order.compares_by s.order cmp) (sym c.self.view_is) by in
    let line : Nodes g.row.T.Denot = c.one_line-line.result.0 in
    let is : c.append_line.new.list ≡ elements line = c.append_line.ensures ∙ ap (λ l. l ++ elements line) c.new-list.ensures in
    let held = c.settle.ensures.arrivals cmp a asked (subst (λ ls. Holds cmp ls a) (sym view) h) in
    subst (λ s. Represents cmp s (elements a)) (sym is) (elements_represent (g.met.O.Order.lawful c.args.self.order cmp by) line a (c.one_line-line.ensures.arrivals cmp a asked held))

pub returns-clause-kept : goal.returns-clause-kept
returns-clause-kept g c =
    let view = ap (λ (s : Heaped g.row.T.Denot g.row.O.Denot). s.lines) c.self.view_is in
    let line : Nodes g.row.T.Denot = c.one_line-line.result.0 in (
      line,
      c.append_line.ensures ∙ ap (λ l. l ++ elements line) c.new-list.ensures,
      subst (λ ls. IsPermutation (flat ls) line) view (IsPermutation-trans (flat (settled c.self.inside.ranked.lines)) (flat c.settle.new.self.lines) line c.settle.ensures.kept c.one_line-line.ensures.kept),
    )
