use Rattle.std.proofs.Common.{ap, sym, subst}
use Rattle.cordyceps_base.specs.BySpot.{HasSpot, HoldsAt}
use Rattle.cordyceps_base.specs.DoubleLines.{flat}
use Rattle.cordyceps_heap.specs.Heap.{Heaped, settled}
use Rattle.cordyceps_heap.proofs.Settled.{settled_has, settled_holds_at}
use Rattle.cordyceps_heap.proofs.stable_heap.StableHeap.get.Goals as goal

pub get_at-requires : goal.get_at-requires
get_at-requires g c =
    let view = ap (λ (s : Heaped g.row.T.Denot g.row.O.Denot). s.lines) c.self.view_is in
    settled_has c.self.inside.ranked.lines c.address_of.result.ptr
    (subst (λ q. HasSpot (flat (settled c.self.inside.ranked.lines)) q) (sym c.address_of.ensures) (subst (λ s. HasSpot (flat s) c.args.at) (sym view) c.requires))

pub returns : goal.returns
returns g c =
    let view = ap (λ (s : Heaped g.row.T.Denot g.row.O.Denot). s.lines) c.self.view_is in
    subst (λ s. HoldsAt (flat s) c.args.at c.get_at.result.now) view
    (subst (λ q. HoldsAt (flat (settled c.self.inside.ranked.lines)) q c.get_at.result.now) c.address_of.ensures (settled_holds_at c.self.inside.ranked.lines c.address_of.result.ptr c.get_at.result.now c.get_at.ensures))
