use Rattle.std.proofs.Common.{◌≡◌, ℕ, ◌∷◌}
use Rattle.cordyceps_base.specs.Element.{Element}
use Rattle.cordyceps_base.specs.Nodes.{Nodes}
use Rattle.cordyceps_stable.specs.Walk.{nodes_from}
use Rattle.cordyceps_clock.specs.Buckets.{bucket_of}
use Rattle.cordyceps_clock.proofs.Firsts.{Counted, IsLeastOf}
use Rattle.cordyceps_clock.proofs.spreading.first_bucket.Given as goal

abbrev pub invariant-loop-next : goal.invariant-loop-next
invariant-loop-next g l =
    Counted l.list l.first.len l.next (λ seen. (of : g.row.T.Denot → ℕ) (e : Element g.row.T.Denot) (after : Nodes g.row.T.Denot) → g.O.Times.computes_by l.times of → l.list ≡ (l.fn.at, e) ∷ after → bucket_of l.clock (of e.value) ≡ l.k
    → IsLeastOf of l.clock l.k l.first.least l.first.at seen)

abbrev pub decreases-loop-next : goal.decreases-loop-next
decreases-loop-next g l = nodes_from l.list l.next
