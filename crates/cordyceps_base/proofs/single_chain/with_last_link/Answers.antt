use Rattle.std.proofs.Common.{◌≡◌, ◌++◌, slice_get, Some, sym, ◌∙◌, subst}
use Rattle.cordyceps_base.specs.Boxes.{box_addresses, box_values, set_value}
use Rattle.cordyceps_base.specs.SingleChain.{with_next}
use Rattle.cordyceps_base.proofs.SingleChain.{last_place, relink}
use Rattle.cordyceps_base.proofs.single_chain.with_last_link.Goals as goal

pub get_mut-requires : goal.get_mut-requires
get_mut-requires g c = subst (λ ns. slice_get (box_addresses ns) 0 ≡ Some c.args.last.ptr) (sym c.cut_last-front.ensures.1) (last_place c.args.row.blocks c.args.last.ptr c.requires.at c.requires.some)

pub returns : goal.returns
returns g c =
    let cut = c.cut_last-front.ensures in let b = c.get_mut.result.now in
    c.join.ensures ∙ (λ i. cut.0 i ++ set_value (cut.1 i) 0 (with_next b c.args.next))
    ∙ relink c.args.row.blocks b c.args.next c.requires.some (subst (λ ns. slice_get (box_values ns) 0 ≡ Some b) cut.1 c.get_mut.ensures.value)
