use Rattle.std.proofs.Common.{◌≡◌, ◌-◌, List, [], ◌∷◌, length, refl, ap, sym, ◌∙◌, subst, arith}
use Rattle.std.specs.Fn.{FnOnceReturnsAtMut}
use denote.RawPtr.{Ptr}
use Rattle.cordyceps_base.specs.BySpot.{HasSpot, IsTaken}
use Rattle.cordyceps_base.specs.DoubleLines.{flat}
use Rattle.cordyceps_base.specs.Element.{Element}
use Rattle.cordyceps_base.specs.Nodes.{Nodes}
use Rattle.cordyceps_heap.specs.Heap.{Heaped, Holds, settled}
use Rattle.cordyceps_heap.proofs.Kept.{changed_keeps}
use Rattle.cordyceps_heap.proofs.Said.{out_said, one_less, some_long, only_value, same_node, taken_holds}
use Rattle.cordyceps_heap.proofs.Settled.{holds_more, kept_with, last_left, one_longer, settled_distinct, settled_has, settled_holds_taken, settled_taken}
use Rattle.cordyceps_heap.proofs.stable_heap.StableHeap.update.Goals as goal

pub take_at-one-requires : goal.take_at-one-requires
take_at-one-requires g c =
    let view = ap (λ (s : Heaped g.row.T.Denot g.row.O.Denot). s.lines) c.self.view_is in
    settled_has c.self.inside.ranked.lines c.address_of.result.ptr
    (subst (λ q. HasSpot (flat (settled c.self.inside.ranked.lines)) q) (sym c.address_of.ensures) (subst (λ s. HasSpot (flat s) c.args.at) (sym view) c.requires.there))

pub change_only-answer-requires-clause-callable : goal.change_only-answer-requires-clause-callable
change_only-answer-requires-clause-callable g c = λ lent at.
    let view = ap (λ (s : Heaped g.row.T.Denot g.row.O.Denot). s.lines) c.self.view_is in
    let lines = c.self.inside.ranked.lines in let left = c.take_at-one.new.self in
    let (e, one, out) = c.take_at-one.ensures in
    let said = out_said lines lines left left c.address_of.result.ptr c.args.at e e refl c.address_of.ensures refl refl out in
    let taken = subst (λ s. IsTaken (flat s) c.args.at e (flat (settled left))) view (settled_taken lines left c.args.at e said) in
    c.requires.callable lent (taken_holds (flat c.args.self.now.lines) (flat (settled left)) c.args.at e lent.now taken (only_value c.take_at-one.result c.address_of.result.ptr e lent.now one at))

pub add_fresh-requires-clause-fresh : goal.add_fresh-requires-clause-fresh
add_fresh-requires-clause-fresh g c = let (e, one, out) = c.take_at-one.ensures in last_left c.self.inside.ranked.lines c.take_at-one.new.self c.address_of.result.ptr e out c.self.invariant.1

pub add_fresh-requires-clause-one : goal.add_fresh-requires-clause-one
add_fresh-requires-clause-one g c = let (p, o, w, was, is, gave) = c.change_only-answer.ensures in ap length is

pub invariant_of-self : goal.invariant_of-self
invariant_of-self g c =
    let lines = c.self.inside.ranked.lines in let left : List (Nodes g.row.T.Denot) = c.take_at-one.new.self in let at = c.address_of.result.ptr in
    let (e, one, out) = c.take_at-one.ensures in let (p, o, w, was, is, gave) = c.change_only-answer.ensures in
    let taken = settled_taken lines left at e out in
    let less = one_less (flat (settled lines)) (flat (settled left)) at e c.self.inside.len taken c.self.invariant.0 in
    let some = some_long (flat (settled lines)) (flat (settled left)) at e c.self.inside.len taken c.self.invariant.0 in
    let more = one_longer (settled left) (settled c.add_fresh.new.self.lines) c.change_only-answer.new.line (p, record { id = o.id; value = w }) (c.self.inside.len - 1) c.add_fresh.ensures.added is less in
    (omega (arith, some, more), c.add_fresh.ensures.fresh)

pub returns-clause-distinct : goal.returns-clause-distinct
returns-clause-distinct g c = settled_distinct c.add_fresh.new.self.lines c.are_distinct.ensures

pub returns-clause-changed : goal.returns-clause-changed
returns-clause-changed g c =
    let view = ap (λ (s : Heaped g.row.T.Denot g.row.O.Denot). s.lines) c.self.view_is in
    let (e, one, out) = c.take_at-one.ensures in let (p, o, w, was, is, gave) = c.change_only-answer.ensures in
    let same = same_node c.take_at-one.result c.address_of.result.ptr p e o one was in
    let n : Element g.row.T.Denot = record { id = e.id; value = w } in let x : Ptr × Element g.row.T.Denot = (c.args.at, n) in
    let lines = c.self.inside.ranked.lines in let left : List (Nodes g.row.T.Denot) = c.take_at-one.new.self in
    let line : c.change_only-answer.new.line ≡ x ∷ [] = is ∙ (λ i. ((sym same.0 ∙ c.address_of.ensures) i, record { id = (sym same.1 i).id; value = w }) ∷ []) in
    let said = out_said lines lines left left c.address_of.result.ptr c.args.at e e refl c.address_of.ensures refl refl out in (
      e,
      w,
      flat (settled left),
      subst (λ (x : Element g.row.T.Denot). FnOnceReturnsAtMut g.F.FnOnce c.args.change x.value c.change_only-answer.result w) (sym same.1) gave,
      subst (λ s. IsTaken (flat s) c.args.at e (flat (settled left))) view (settled_taken lines left c.args.at e said),
      kept_with (settled left) (settled c.add_fresh.new.self.lines) c.change_only-answer.new.line x c.add_fresh.ensures.added line,
      λ cmp a by h.
          let (rest, (taken, held)) = settled_holds_taken (g.met.O.Order.lawful c.args.self.now.order cmp by) lines left c.args.at e a said (subst (λ s. Holds cmp s a) (sym view) h) in
          (rest, (taken, holds_more cmp (settled left) (settled c.add_fresh.new.self.lines) c.change_only-answer.new.line x rest c.add_fresh.ensures.added line held)),
    )

pub returns-clause-spots_kept : goal.returns-clause-spots_kept
returns-clause-spots_kept g c p has =
    let (e, w, rest, _, taken, kept, _) = returns-clause-changed g c in
    changed_keeps (flat c.args.self.now.lines) (flat (settled c.add_fresh.new.self.lines)) rest c.args.at p
    e (record { id = e.id; value = w }) taken kept has
