use Rattle.std.proofs.Common.{◌<◌, ◌-◌, take, drop, ap, ◌∙◌, sym, subst, refl, arith}
use Rattle.cordyceps_base.specs.Boxes.{box_addresses, box_values, set_value}
use Rattle.cordyceps_base.specs.Nodes.{nodes_of}
use Rattle.cordyceps_base.specs.Spots.{AreNullComparable}
use Rattle.std.specs.Prelude.{◌≡◌, slice_get, Some}
use denote.RawPtr.{null_ptr}
use Rattle.cordyceps_base.proofs.DoubleChain.{cut_before, front_end, front_cut, back_end, back_cut, with_next, with_prev}
use Rattle.cordyceps_base.proofs.Nodes.{at_place, nodes_of-take, nodes_of-drop, nodes_of-set, within_values}
use Rattle.cordyceps_base.proofs.double_chain.DoubleChain.cut.Goals as goal

pub get-requires : goal.get-requires
get-requires g c = at_place c.self.inside.boxes.blocks c.args.self c.self.view_is c.args.k c.args.at.ptr c.requires.1

pub get_mut-requires : goal.get_mut-requires
get_mut-requires g c =
    let i = c.self.inside in let k = c.args.k in let at = c.args.at.ptr in let ns = i.boxes.blocks in let b = c.get.result.now in
    let parts = cut_before null_ptr i.head.ptr k ns i.tail.ptr null_ptr at b c.self.invariant.segment (at_place ns c.args.self c.self.view_is k at c.requires.1) c.get.ensures in
    let long = c.self.invariant.long in let within = within_values ns k b c.get.ensures in let less : k < i.len = omega (arith, long, within) in
    subst (λ ls. slice_get (box_addresses ls) (k - 1) ≡ Some b.links.prev.ptr) (sym c.cut-front.ensures.0) (front_end k i.len ns i.head.ptr i.tail.ptr b.links.prev.ptr at c.null.result c.null.result c.null.ensures c.null.ensures c.requires.0 less long parts.0)

pub get_mut-requires-2 : goal.get_mut-requires-2
get_mut-requires-2 g c =
    let i = c.self.inside in let k = c.args.k in let at = c.args.at.ptr in let ns = i.boxes.blocks in let b = c.get.result.now in
    let parts = cut_before null_ptr i.head.ptr k ns i.tail.ptr null_ptr at b c.self.invariant.segment (at_place ns c.args.self c.self.view_is k at c.requires.1) c.get.ensures in
    let long = c.self.invariant.long in let within = within_values ns k b c.get.ensures in let less : k < i.len = omega (arith, long, within) in
    subst (λ ls. slice_get (box_addresses ls) 0 ≡ Some at) (sym c.cut-front.ensures.1) (back_end k i.len ns i.head.ptr i.tail.ptr b.links.prev.ptr at c.null.result c.null.result c.null.ensures c.null.ensures c.requires.0 less long parts.1)

pub overflow_sub-rest : goal.overflow_sub-rest
overflow_sub-rest g c =
    let i = c.self.inside in let long = c.self.invariant.long in let within = within_values i.boxes.blocks c.args.k c.get.result.now c.get.ensures in omega (arith, long, within)

pub invariant_of-first : goal.invariant_of-first
invariant_of-first g c =
    let i = c.self.inside in let k = c.args.k in let at = c.args.at.ptr in let ns = i.boxes.blocks in let b = c.get.result.now in
    let parts = cut_before null_ptr i.head.ptr k ns i.tail.ptr null_ptr at b c.self.invariant.segment (at_place ns c.args.self c.self.view_is k at c.requires.1) c.get.ensures in
    let long = c.self.invariant.long in let within = within_values ns k b c.get.ensures in let less : k < i.len = omega (arith, long, within) in
    let no = c.null.result in let f = c.cut-front.ensures.0 in let o = c.get_mut.result.now in
    front_cut k i.len ns i.head.ptr i.tail.ptr b.links.prev.ptr at no no c.null.ensures c.null.ensures c.requires.0 less long o c.null_comparable.result.blocks parts.0
    (subst (λ ls. slice_get (box_values ls) (k - 1) ≡ Some o) f c.get_mut.ensures.value)
    (c.null_comparable.ensures.0 ∙ ap (λ ls. set_value ls (k - 1) (with_next o no)) f)
    (subst (λ ls. AreNullComparable (box_addresses ls)) (sym c.null_comparable.ensures.0) c.null_comparable.ensures.1)

pub invariant_of-rest : goal.invariant_of-rest
invariant_of-rest g c =
    let i = c.self.inside in let k = c.args.k in let at = c.args.at.ptr in let ns = i.boxes.blocks in let b = c.get.result.now in
    let parts = cut_before null_ptr i.head.ptr k ns i.tail.ptr null_ptr at b c.self.invariant.segment (at_place ns c.args.self c.self.view_is k at c.requires.1) c.get.ensures in
    let long = c.self.invariant.long in let within = within_values ns k b c.get.ensures in let less : k < i.len = omega (arith, long, within) in
    let no = c.null-2.result in let f = c.cut-front.ensures.1 in let o = c.get_mut-2.result.now in
    back_cut k i.len ns i.head.ptr i.tail.ptr b.links.prev.ptr at no no c.null-2.ensures c.null-2.ensures c.requires.0 less long o c.null_comparable-2.result.blocks parts.1
    (subst (λ ls. slice_get (box_values ls) 0 ≡ Some o) f c.get_mut-2.ensures.value)
    (c.null_comparable-2.ensures.0 ∙ ap (λ ls. set_value ls 0 (with_prev o no)) f)
    (subst (λ ls. AreNullComparable (box_addresses ls)) (sym c.null_comparable-2.ensures.0) c.null_comparable-2.ensures.1)

pub returns : goal.returns
returns g c =
    let ns = c.self.inside.boxes.blocks in let k = c.args.k in let f = c.cut-front.ensures in let o = c.get_mut.result.now in let p = c.get_mut-2.result.now in (
      ap nodes_of c.null_comparable.ensures.0 ∙ nodes_of-set c.cut-front.result.0.blocks (k - 1) o (with_next o c.null.result) c.get_mut.ensures.value refl refl ∙ ap nodes_of f.0 ∙ nodes_of-take k ns ∙ ap (take k) c.self.view_is,
      ap nodes_of c.null_comparable-2.ensures.0 ∙ nodes_of-set c.cut-front.result.1.blocks 0 p (with_prev p c.null-2.result) c.get_mut-2.ensures.value refl refl ∙ ap nodes_of f.1 ∙ nodes_of-drop k ns ∙ ap (drop k) c.self.view_is,
    )
