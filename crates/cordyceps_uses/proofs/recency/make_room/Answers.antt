use Rattle.std.proofs.Common.{◌≡◌, cond, Bool, ◌∷◌, drop, length, if◌then◌else◌, ap, sym, arith, ◌∙◌}
use Rattle.std.specs.Map.{lookup_entry, remove_entry}
use Rattle.std.proofs.lemmas.Bool.{le-ltb}
use Rattle.cordyceps_uses.specs.Keyed.{in_order, order}
use Rattle.cordyceps_uses.proofs.Ordered.{none_left, order_here, shrunk}
use Rattle.cordyceps_uses.proofs.recency.make_room.Goals as goal

pub returns-clause-left : goal.returns-clause-left
returns-clause-left g c =
    let eq = g.K.PartialEq.eq in let m = c.args.map.now in let s = order 0 m in let t = c.take_out.ensures in let x = c.take_out.result.value in
    let (after, first) = c.in_ok-at.ensures.first in let r = in_order m.nodes after in
    let is : s ≡ x ∷ r = ap (in_order m.nodes) first ∙ order_here m.nodes c.in_ok-at.at after x t.value in
    let full = let a = c.count.ensures in let b = c.if-count-capacity.false in le-ltb (length s) c.args.capacity (omega (arith, a, b)) in
    t.out.left ∙ ap (remove_entry (eq x.0)) is ∙ ap (λ (b : Bool). cond b r (x ∷ remove_entry (eq x.0) r)) (g.met.K.Eq.laws.refl x.0) ∙ sym (ap (drop 1) is)
    ∙ sym (ap (λ (b : Bool). if b then s else drop 1 s) full)

pub returns-clause-absent : goal.returns-clause-absent
returns-clause-absent g c k none =
    let eq = g.K.PartialEq.eq in
    ap (lookup_entry (eq k)) c.take_out.ensures.out.left ∙ none_left (eq k) (eq c.take_out.result.value.0) (order 0 c.args.map.now) none

pub returns-clause-room : goal.returns-clause-room
returns-clause-room g c =
    let less = shrunk g.K.PartialEq.eq (order 0 c.args.map.now) c.take_out.result.value (order 0 c.take_out.new.map) c.take_out.ensures.out in let fits = c.requires.fits in omega (arith, less, fits)
