use Rattle.std.proofs.Common.{◌<◌, ◌-◌, ◌++◌, ap, ◌∙◌, sym, subst, refl, arith}
use Rattle.cordyceps_base.specs.Boxes.{set_value, box_addresses}
use Rattle.cordyceps_base.specs.Nodes.{nodes_of}
use Rattle.cordyceps_base.specs.Spots.{AreNullComparable}
use Rattle.cordyceps_base.proofs.DoubleChain.{with_next, with_prev, first_here, last_here, joined}
use Rattle.cordyceps_base.proofs.Nodes.{nodes_of-set, nodes_of-append}
use Rattle.cordyceps_base.proofs.double_chain.DoubleChain.join.Goals as goal

pub get_mut-requires : goal.get_mut-requires
get_mut-requires g c =
    let a = c.self.inside in let some : 0 < a.len = omega (arith, c.if-self-eq0.false) in last_here a.head.ptr a.tail.ptr a.len a.boxes.blocks c.self.invariant some

pub get_mut-requires-2 : goal.get_mut-requires-2
get_mut-requires-2 g c =
    let o = c.other.inside in let others : 0 < o.len = omega (arith, c.if-other-eq0.false) in first_here o.head.ptr o.tail.ptr o.len o.boxes.blocks c.other.invariant others

pub invariant_of-result-2 : goal.invariant_of-result-2
invariant_of-result-2 g c =
    let a = c.self.inside in let o = c.other.inside in let some : 0 < a.len = omega (arith, c.if-self-eq0.false) in
    joined a.head.ptr o.tail.ptr o.head a.tail a.len o.len a.boxes.blocks o.boxes.blocks c.null_comparable.result.blocks c.get_mut.result.now c.get_mut-2.result.now c.self.invariant c.other.invariant some
    c.get_mut.ensures.value c.get_mut-2.ensures.value (c.null_comparable.ensures.0 ∙ c.join.ensures) (subst (λ ls. AreNullComparable (box_addresses ls)) (sym c.null_comparable.ensures.0) c.null_comparable.ensures.1)

pub returns : goal.returns
returns g c =
    let a = c.self.inside in let o = c.other.inside in let b = c.get_mut.result.now in let d = c.get_mut-2.result.now in
    let xs = set_value a.boxes.blocks (a.len - 1) (with_next b o.head) in let ys = set_value o.boxes.blocks 0 (with_prev d a.tail) in
    ap nodes_of (c.null_comparable.ensures.0 ∙ c.join.ensures) ∙ nodes_of-append xs ys
    ∙ (λ i. nodes_of-set a.boxes.blocks (a.len - 1) b (with_next b o.head) c.get_mut.ensures.value refl refl i ++ nodes_of-set o.boxes.blocks 0 d (with_prev d a.tail) c.get_mut-2.ensures.value refl refl i)
    ∙ (λ i. c.self.view_is i ++ c.other.view_is i)
