use Rattle.std.proofs.Common.{◌≡◌, [], ◌∷◌, ◌++◌, length, take, drop, slice_get, Some, ap, ◌∙◌, sym, subst, arith}
use Rattle.core.specs.Option.{option_or}
use Rattle.cordyceps_base.specs.Boxes.{box_values}
use Rattle.cordyceps_base.specs.Nodes.{nodes_of}
use Rattle.cordyceps_base.specs.SingleChain.{IsParted, next_of}
use Rattle.cordyceps_base.proofs.Nodes.{length-nodes_of, nodes_of-append}
use Rattle.cordyceps_base.proofs.SingleChain.{some_first, moved_on, first_shown, next_testable-cut}
use Rattle.cordyceps_base.proofs.single_chain.Cursor.moved.Goals as goal

pub unwrap-here-requires : goal.unwrap-here-requires
unwrap-here-requires g c =
    let i = c.self.inside in let long = ap (λ v. length v.rest) c.self.view_is in some_first i.at i.rest.blocks c.self.invariant.rest_led (omega (arith, long, length-nodes_of i.rest.blocks))

pub not_null-next-requires : goal.not_null-next-requires
not_null-next-requires g c =
    let i = c.self.inside in let b = c.get.result.now in let cut0 = c.cut-first.ensures.0 ∙ ap (λ l. take 1 l) c.null_comparable.ensures.0 in
    next_testable-cut i.at i.rest.blocks b c.self.invariant.rest_led c.null_comparable.ensures.1 (subst (λ ns. slice_get (box_values ns) 0 ≡ Some b) cut0 c.get.ensures)

pub invariant_of-result : goal.invariant_of-result
invariant_of-result g c =
    let i = c.self.inside in let same = c.null_comparable.ensures.0 in let cut0 = c.cut-first.ensures.0 ∙ ap (λ l. take 1 l) same in let cut1 = c.cut-first.ensures.1 ∙ ap (λ l. drop 1 l) same in let b = c.get.result.now in
    let moved = moved_on i.head i.at i.before.ptr i.tail.ptr i.front.blocks i.rest.blocks c.unwrap-here.result b c.self.invariant c.unwrap-here.ensures (subst (λ ns. slice_get (box_values ns) 0 ≡ Some b) cut0 c.get.ensures) in
    let front = c.join.ensures ∙ ap (λ l. i.front.blocks ++ l) cut0 in
    subst (λ n. IsParted c.or.result c.unwrap-here.result.ptr n i.tail.ptr c.join.result.blocks c.cut-first.result.1.blocks) (sym c.not_null-next.ensures)
    (subst (λ h. IsParted h c.unwrap-here.result.ptr (next_of b) i.tail.ptr c.join.result.blocks c.cut-first.result.1.blocks) (sym c.or.ensures)
    (subst (λ l. IsParted (option_or i.head i.at) c.unwrap-here.result.ptr (next_of b) i.tail.ptr l c.cut-first.result.1.blocks) (sym front)
    (subst (λ l. IsParted (option_or i.head i.at) c.unwrap-here.result.ptr (next_of b) i.tail.ptr (i.front.blocks ++ take 1 i.rest.blocks) l) (sym cut1) moved)))

pub returns : goal.returns
returns g c =
    let i = c.self.inside in let same = c.null_comparable.ensures.0 in let cut0 = c.cut-first.ensures.0 ∙ ap (λ l. take 1 l) same in let cut1 = c.cut-first.ensures.1 ∙ ap (λ l. drop 1 l) same in let (x, whole, first) = first_shown i.rest.blocks c.get.result.now (subst (λ ns. slice_get (box_values ns) 0 ≡ Some c.get.result.now) cut0 c.get.ensures) in (
      x,
      ap (λ v. v.rest) (sym c.self.view_is) ∙ whole ∙ ap (λ l. x ∷ nodes_of l) (sym cut1),
      ap nodes_of c.join.ensures ∙ nodes_of-append i.front.blocks c.cut-first.result.0.blocks ∙ ap (λ l. nodes_of i.front.blocks ++ nodes_of l) cut0 ∙ ap (λ l. nodes_of i.front.blocks ++ l) first ∙ ap (λ v. v.before ++ x ∷ []) c.self.view_is,
    )
