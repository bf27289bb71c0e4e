use Rattle.std.proofs.Common.{refl, ap, sym, ◌∙◌, subst}
use Rattle.cordyceps_base.specs.BySpot.{HasSpot, IsTaken}
use Rattle.cordyceps_base.specs.DoubleLines.{flat}
use Rattle.cordyceps_base.proofs.Segments.{sole_element}
use Rattle.cordyceps_stable.proofs.Holding.{others_stay}
use Rattle.cordyceps_heap.specs.Heap.{Heaped, Holds, settled}
use Rattle.cordyceps_heap.proofs.Said.{one_less, out_said}
use Rattle.cordyceps_heap.proofs.Settled.{last_left, settled_distinct, settled_has, settled_holds_taken, settled_taken}
use Rattle.cordyceps_heap.proofs.stable_heap.StableHeap.remove.Goals as goal

pub take_at-one-requires : goal.take_at-one-requires
take_at-one-requires g c =
    let view = ap (λ (s : Heaped g.row.T.Denot g.row.O.Denot). s.lines) c.self.view_is in
    settled_has c.self.inside.ranked.lines c.address_of.result.ptr
    (subst (λ q. HasSpot (flat (settled c.self.inside.ranked.lines)) q) (sym c.address_of.ensures) (subst (λ s. HasSpot (flat s) c.args.at) (sym view) c.requires))

pub returns-clause-taken : goal.returns-clause-taken
returns-clause-taken g c =
    let view = ap (λ (s : Heaped g.row.T.Denot g.row.O.Denot). s.lines) c.self.view_is in
    let lines = c.self.inside.ranked.lines in let left = c.take_at-one.new.self in let o = g.T.Linked.element c.from_ptr.result in
    let (e, one, out) = c.take_at-one.ensures in let (q, only) = c.only.ensures in
    let same = sole_element c.take_at-one.result c.address_of.result.ptr q e c.only.result one only ∙ sym c.from_ptr.ensures in
    let said = out_said lines lines left left c.address_of.result.ptr c.args.at e o refl c.address_of.ensures same refl out in
    subst (λ s. IsTaken (flat s) c.args.at o (flat (settled left))) view (settled_taken lines left c.args.at o said)

pub returns-clause-arrivals : goal.returns-clause-arrivals
returns-clause-arrivals g c = λ cmp a by h.
    let view = ap (λ (s : Heaped g.row.T.Denot g.row.O.Denot). s.lines) c.self.view_is in
    let lines = c.self.inside.ranked.lines in let left = c.take_at-one.new.self in let o = g.T.Linked.element c.from_ptr.result in
    let (e, one, out) = c.take_at-one.ensures in let (q, only) = c.only.ensures in
    let same = sole_element c.take_at-one.result c.address_of.result.ptr q e c.only.result one only ∙ sym c.from_ptr.ensures in
    let said = out_said lines lines left left c.address_of.result.ptr c.args.at e o refl c.address_of.ensures same refl out in
    settled_holds_taken (g.met.O.Order.lawful c.args.self.now.order cmp by) lines left c.args.at o a said (subst (λ s. Holds cmp s a) (sym view) h)

pub returns-clause-distinct : goal.returns-clause-distinct
returns-clause-distinct g c = settled_distinct c.take_at-one.new.self c.are_distinct.ensures

pub invariant_of-self : goal.invariant_of-self
invariant_of-self g c =
    let lines = c.self.inside.ranked.lines in let left = c.take_at-one.new.self in let p = c.address_of.result.ptr in let (e, one, out) = c.take_at-one.ensures in
    (one_less (flat (settled lines)) (flat (settled left)) p e c.self.inside.len (settled_taken lines left p e out) c.self.invariant.0, last_left lines left p e out c.self.invariant.1)

pub returns-clause-spots_kept : goal.returns-clause-spots_kept
returns-clause-spots_kept g c p has other =
    others_stay (flat c.args.self.now.lines) (flat (settled c.take_at-one.new.self)) c.args.at p
    (g.T.Linked.element c.from_ptr.result) (returns-clause-taken g c) has (λ same. other (sym same))
