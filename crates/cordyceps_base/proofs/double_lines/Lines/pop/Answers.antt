use Rattle.std.proofs.Common.{get_or, refl, ℕ, ◌+◌, ◌<◌, arith, ap, sym, ◌∙◌, subst}
use Rattle.std.proofs.Common.{◌∷◌, ◌++◌, [], take, ◌-◌}
use Rattle.cordyceps_base.specs.Boxes.{box_addresses}
use Rattle.cordyceps_base.specs.DoubleLines.{lines_in}
use Rattle.cordyceps_base.specs.Nodes.{nodes_of}
use Rattle.cordyceps_base.specs.Spots.{AreDistinct, AreNullComparable}
use Rattle.cordyceps_base.proofs.LineTables.{nowhere, cut_of, table_count, table_less, table_less_shown, less_table, less_line}
use Rattle.cordyceps_base.proofs.double_lines.Lines.pop.Goals as goal

takes_space : (x y s : ℕ) → 0 < 24 + x + s + y
takes_space x y s = omega arith

pub invariant_of-self : goal.invariant_of-self
invariant_of-self g c =
    let i = c.self.inside in
    let n = table_count i.firsts i.count i.row.blocks c.args.self.now c.self.invariant c.self.view_is in let asked = c.requires in
    let u = table_less i.firsts i.count (get_or i.firsts (i.count - 1) nowhere) i.row.blocks c.cut_at-row.result.0.blocks c.cut_at-row.result.1.blocks c.self.invariant (omega (arith, n, asked)) refl (cut_of _ _ _ _ _ c.taken.ensures.0 c.cut_at-row.ensures) in
    less_table i.firsts i.count (get_or i.firsts (i.count - 1) nowhere) i.row.blocks c.cut_at-row.result.0.blocks c.cut_at-row.result.1.blocks c.put_back.new.row.blocks c.self.invariant u (c.put_back.ensures ∙ c.null_comparable.ensures.0 ∙ c.distinct.ensures.0)
    (subst (λ ls. AreNullComparable (box_addresses ls)) (sym (c.put_back.ensures ∙ c.null_comparable.ensures.0)) c.null_comparable.ensures.1)
    (subst (λ ls. AreDistinct (box_addresses ls)) (sym (c.put_back.ensures ∙ c.null_comparable.ensures.0 ∙ c.distinct.ensures.0)) (c.distinct.ensures.1 (takes_space _ _ _)))

pub invariant_of-result : goal.invariant_of-result
invariant_of-result g c =
    let i = c.self.inside in
    let n = table_count i.firsts i.count i.row.blocks c.args.self.now c.self.invariant c.self.view_is in let asked = c.requires in
    let u = table_less i.firsts i.count (get_or i.firsts (i.count - 1) nowhere) i.row.blocks c.cut_at-row.result.0.blocks c.cut_at-row.result.1.blocks c.self.invariant (omega (arith, n, asked)) refl (cut_of _ _ _ _ _ c.taken.ensures.0 c.cut_at-row.ensures) in
    less_line i.firsts i.count (get_or i.firsts (i.count - 1) nowhere) i.row.blocks c.cut_at-row.result.0.blocks c.cut_at-row.result.1.blocks c.null_comparable-2.result.blocks u c.null_comparable-2.ensures.0
    (subst (λ ls. AreNullComparable (box_addresses ls)) (sym c.null_comparable-2.ensures.0) c.null_comparable-2.ensures.1)

pub returns : goal.returns
returns g c =
    let i = c.self.inside in
    let n = table_count i.firsts i.count i.row.blocks c.args.self.now c.self.invariant c.self.view_is in let asked = c.requires in
    let some : 0 < i.count = omega (arith, n, asked) in
    let u = table_less i.firsts i.count (get_or i.firsts (i.count - 1) nowhere) i.row.blocks c.cut_at-row.result.0.blocks c.cut_at-row.result.1.blocks c.self.invariant some refl (cut_of _ _ _ _ _ c.taken.ensures.0 c.cut_at-row.ensures) in
    table_less_shown i.firsts i.count (get_or i.firsts (i.count - 1) nowhere) i.row.blocks c.cut_at-row.result.0.blocks c.cut_at-row.result.1.blocks c.put_back.new.row.blocks c.args.self.now c.self.invariant some refl u c.self.view_is (c.put_back.ensures ∙ c.null_comparable.ensures.0 ∙ c.distinct.ensures.0)
    (subst (λ ls. AreNullComparable (box_addresses ls)) (sym (c.put_back.ensures ∙ c.null_comparable.ensures.0)) c.null_comparable.ensures.1)
    (subst (λ ls. AreDistinct (box_addresses ls)) (sym (c.put_back.ensures ∙ c.null_comparable.ensures.0 ∙ c.distinct.ensures.0)) (c.distinct.ensures.1 (takes_space _ _ _)))
    ∙ ap (λ l. lines_in (take (i.count - 1) i.firsts) (nodes_of c.put_back.new.row.blocks) ++ l ∷ []) (ap nodes_of (sym c.null_comparable-2.ensures.0))
