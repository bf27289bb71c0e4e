use Rattle.std.proofs.Common.{◌≡◌, true, get_or, [], ◌∷◌, ◌++◌, take, drop, ap, sym, ◌∙◌, subst}
use Rattle.cordyceps_base.specs.Boxes.{box_addresses, box_values}
use Rattle.cordyceps_base.specs.Spots.{index_of}
use Rattle.cordyceps_base.proofs.Memory.{take-drop}
use Rattle.cordyceps_many.specs.declared.hook.Hook.{Hook}
use Rattle.cordyceps_many.specs.Rows.{block_of, block_element, hook_at}
use Rattle.cordyceps_many.specs.Threads.{is_in, hook_in}
use Rattle.cordyceps_many.proofs.HookRows.{cut, hook_cut}
use Rattle.cordyceps_many.proofs.rows.taken.Goals as goal

pub only-requires : goal.only-requires
only-requires g c =
    let ns = c.args.row.now.boxes.blocks in let p = c.address_of-at.result.ptr in let at = c.address_of-at.ensures in let was = ap (λ z. z.blocks) c.replace-boxes.ensures.value in
    let u = cut ns p (subst (λ q. is_in q (box_addresses ns) ≡ true) (sym at) c.requires.there) in
    let back = c.cut_at-front.ensures.1 ∙ ap (λ ls. drop (index_of p (box_addresses ls)) ls) was ∙ u.back in
    (block_of u.node, c.cut-one.ensures.0 ∙ ap (take 1) back ∙ (λ i. (u.lies i, u.node.1, block_of u.node) ∷ []))

pub invariant_of-result : goal.invariant_of-result
invariant_of-result g c =
    let ns = c.args.row.now.boxes.blocks in let p = c.address_of-at.result.ptr in let at = c.address_of-at.ensures in let was = ap (λ z. z.blocks) c.replace-boxes.ensures.value in
    let u = cut ns p (subst (λ q. is_in q (box_addresses ns) ≡ true) (sym at) c.requires.there) in
    let back = c.cut_at-front.ensures.1 ∙ ap (λ ls. drop (index_of p (box_addresses ls)) ls) was ∙ u.back in
    let one = c.cut-one.ensures.0 ∙ ap (take 1) back ∙ (λ i. (u.lies i, u.node.1, block_of u.node) ∷ []) in
    let is : c.into_box-block.result.value ≡ block_of u.node = c.into_box-block.ensures ∙ ap (λ ls. get_or (box_values ls) 0 c.only.result.value) (sym c.only.ensures ∙ one) in
    λ i m. ap (λ b. (hook_in b.hooks i).linked) is ∙ sym (ap (λ (h : Hook). h.linked) (hook_cut ns p u i)) ∙ ap (λ q. (hook_at ns i q).linked) at ∙ c.requires.off i m

pub returns-clause-taken : goal.returns-clause-taken
returns-clause-taken g c =
    let ns = c.args.row.now.boxes.blocks in let p = c.address_of-at.result.ptr in let at = c.address_of-at.ensures in let was = ap (λ z. z.blocks) c.replace-boxes.ensures.value in
    let u = cut ns p (subst (λ q. is_in q (box_addresses ns) ≡ true) (sym at) c.requires.there) in
    let back = c.cut_at-front.ensures.1 ∙ ap (λ ls. drop (index_of p (box_addresses ls)) ls) was ∙ u.back in
    let k = index_of p (box_addresses ns) in
    let one = c.cut-one.ensures.0 ∙ ap (take 1) back ∙ (λ i. (u.lies i, u.node.1, block_of u.node) ∷ []) in
    let is : c.into_box-block.result.value ≡ block_of u.node = c.into_box-block.ensures ∙ ap (λ ls. get_or (box_values ls) 0 c.only.result.value) (sym c.only.ensures ∙ one) in
    record {
      front = take k ns;
      back = u.after;
      alloc = u.node.1;
      block = block_of u.node;
      was = take-drop k ns ∙ (λ i. take k ns ++ u.back i) ∙ (λ i. take k ns ++ ((u.lies ∙ at) i, u.node.1, block_of u.node) ∷ u.after);
      left = ap (λ z. z.blocks) c.replace-none.ensures.after ∙ c.null_comparable-others.ensures.0 ∙ c.distinct.ensures.0 ∙ c.join.ensures
          ∙ (λ i. (c.cut_at-front.ensures.0 ∙ ap (λ ls. take (index_of p (box_addresses ls)) ls) was) i ++ (c.cut-one.ensures.1 ∙ ap (drop 1) back) i);
      shows = sym (ap block_element is);
    }
