use Rattle.std.proofs.Common.{sym, ap, subst, ◌∙◌}
use Rattle.std.proofs.lemmas.List.Sorted.{IsPermutation-map, IsPermutation-sym, length_permutation}
use Rattle.std.specs.List.Sorted.{IsPermutation}
use Rattle.cordyceps_base.specs.DoubleLines.{flat}
use Rattle.cordyceps_base.specs.Nodes.{entries}
use Rattle.cordyceps_heap.specs.Heap.{Heaped, settled}
use Rattle.cordyceps_heap.proofs.Settled.{settled_kept}
use Rattle.cordyceps_heap.proofs.stable_heap.StableHeap.iter.Goals as goal

pub over-requires : goal.over-requires
over-requires g c =
    let lines = c.self.inside.ranked.lines in
    c.self.invariant.0 ∙ length_permutation (flat lines) (flat (settled lines)) (settled_kept lines)

pub returns : goal.returns
returns g c =
    let lines = c.self.inside.ranked.lines in let all = flat (settled lines) in
    let view = ap (λ (s : Heaped g.row.T.Denot g.row.O.Denot). s.lines) c.self.view_is in
    let kept = IsPermutation-sym (flat lines) all (settled_kept lines) in
    subst (λ s. IsPermutation (entries (flat s)) c.over.result) view
    (subst (IsPermutation (entries all)) (sym c.over.ensures)
    (IsPermutation-map (λ n. (n.0, n.1.value)) all (flat lines) kept))
