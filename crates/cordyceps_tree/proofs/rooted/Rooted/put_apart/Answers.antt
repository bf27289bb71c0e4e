use Rattle.std.proofs.Common.{true, false, [], ◌∷◌, Option, ap, sym, ◌∙◌, subst}
use Rattle.std.specs.Prelude.{IfSome}
use denote.RawPtr.{Ptr}
use Rattle.cordyceps_base.specs.BySpot.{HasSpot}
use Rattle.cordyceps_base.specs.Nodes.{Nodes}
use Rattle.cordyceps_tree.specs.Bounds.{IsPutWhere, IsBoundWhere, SaysBeforeEquals, AnswersAt}
use Rattle.cordyceps_tree.specs.Rows.{nodes_of}
use Rattle.cordyceps_tree.proofs.Bounds.{bound_has}
use Rattle.cordyceps_tree.proofs.Saying.{place_reaches, bound_said, put_said, put_whole}
use Rattle.cordyceps_tree.proofs.rooted.Rooted.put_apart.Goals as goal

pub spot_unless_null-next-requires : goal.spot_unless_null-next-requires
spot_unless_null-next-requires g c =
    let says = SaysBeforeEquals (g.O.Order.compares_by c.args.order.now) c.value-value.result.now in
    (place_reaches says c.self.inside.row.boxes.blocks c.self.inside.root.ptr c.place_of-place.result c.self.invariant.tree c.place_of-place.ensures.place).testable

pub equal_at-requires-clause-there : goal.equal_at-requires-clause-there
equal_at-requires-clause-there g c =
    let says = SaysBeforeEquals (g.O.Order.compares_by c.args.order.now) c.value-value.result.now in let next = c.spot_unless_null-next.result in
    let bound = bound_said says c.self.inside.row.boxes.blocks c.self.inside.root.ptr c.place_of-place.result c.self.invariant.tree c.place_of-place.ensures.place next c.spot_unless_null-next.ensures in
    bound_has says c.args.self.now next (subst (λ (n : Nodes g.row.T.Denot). IsBoundWhere says n next) c.self.view_is bound)

pub replace-requires-clause-there : goal.replace-requires-clause-there
replace-requires-clause-there g c =
    let says = SaysBeforeEquals (g.O.Order.compares_by c.args.order.now) c.value-value.result.now in let next = c.spot_unless_null-next.result in
    let bound = bound_said says c.self.inside.row.boxes.blocks c.self.inside.root.ptr c.place_of-place.result c.self.invariant.tree c.place_of-place.ensures.place next c.spot_unless_null-next.ensures in
    let there = bound_has says c.args.self.now next (subst (λ (n : Nodes g.row.T.Denot). IsBoundWhere says n next) c.self.view_is bound) in
    subst (λ (o : Option Ptr). IfSome o (λ p. HasSpot c.args.self.now p)) c.in-Some.ensures.0 there

pub returns-in-Some : goal.returns-in-Some
returns-in-Some g c = λ e alone.
    let (o, replaced, is) = c.replace.ensures.replaced e alone in let by = g.O.Order.compares_by c.args.order.now in
    (o, record { spot = c.in-Some.at; replaced = replaced; equal = subst (λ v. AnswersAt by v c.args.self.now c.in-Some.at true) (c.value-value.ensures e alone) c.in-Some.ensures.1 }, is ∙ ap (λ p. (p, o) ∷ []) (sym c.replace.ensures.at))

pub invariant_of-self : goal.invariant_of-self
invariant_of-self g c =
    let (e, alone) = c.requires.alone in let place = c.place_of-place.ensures.place in
    put_whole (SaysBeforeEquals (g.O.Order.compares_by c.args.order.now) c.value-value.result.now) c.self.inside.row.boxes.blocks c.put_in-root.new.row.boxes.blocks c.self.inside.root.ptr c.put_in-root.result.ptr c.self.inside.first c.args.one.at c.chosen-new_first.result c.self.inside.len c.place_of-place.result e
    c.self.invariant place c.put_in-root.ensures.tree (c.put_in-root.ensures.nodes e place.gap alone) c.chosen-new_first.ensures

pub returns-in-None : goal.returns-in-None
returns-in-None g c = λ e alone.
    let place = c.place_of-place.ensures.place in let by = g.O.Order.compares_by c.args.order.now in let ns = c.self.inside.row.boxes.blocks in let ms = c.put_in-root.new.row.boxes.blocks in let at = c.args.one.at.ptr in
    let v = c.value-value.result.now in let same = c.value-value.ensures e alone in let next = c.spot_unless_null-next.result in
    let said = put_said (SaysBeforeEquals by v) ns c.self.inside.root.ptr c.place_of-place.result c.self.invariant.tree place at e (nodes_of ms) (c.put_in-root.ensures.nodes e place.gap alone) in
    let bound = bound_said (SaysBeforeEquals by v) ns c.self.inside.root.ptr c.place_of-place.result c.self.invariant.tree place next c.spot_unless_null-next.ensures in
    record {
      put = subst (λ (n : Nodes g.row.T.Denot). IsPutWhere (SaysBeforeEquals by e.value) n at e (nodes_of ms)) c.self.view_is (subst (λ w. IsPutWhere (SaysBeforeEquals by w) (nodes_of ns) at e (nodes_of ms)) same said);
      next = next;
      bound = subst (λ (n : Nodes g.row.T.Denot). IsBoundWhere (SaysBeforeEquals by e.value) n next) c.self.view_is (subst (λ w. IsBoundWhere (SaysBeforeEquals by w) (nodes_of ns) next) same bound);
      differs = λ q is. subst (λ w. AnswersAt by w c.args.self.now q false) same (c.in-None.ensures q is);
    }
