use Rattle.std.proofs.Common.{ℕ, [], ◌+◌, ◌<◌, ◌++◌, arith, sym, ◌∙◌, subst}
use Rattle.std.proofs.lemmas.List.{append-nil}
use Rattle.cordyceps_base.specs.Boxes.{box_addresses}
use Rattle.cordyceps_base.specs.DoubleChain.{Segment}
use Rattle.cordyceps_base.specs.Spots.{AreDistinct, AreNullComparable}
use Rattle.cordyceps_base.proofs.LineTables.{table_count, table_with, table_with_shown}
use Rattle.cordyceps_base.proofs.double_lines.Lines.push.Goals as goal

takes_space : (x y s : ℕ) → 0 < 24 + x + s + y
takes_space x y s = omega arith

pub front_preceded_by-more-requires-clause-linked : goal.front_preceded_by-more-requires-clause-linked
front_preceded_by-more-requires-clause-linked g c = let m = c.line.inside.row.blocks in let l = c.line.invariant in (m, [], sym (append-nil m), (l.prev, l.last, l.linked))

pub front_preceded_by-more-requires-clause-null_comparable : goal.front_preceded_by-more-requires-clause-null_comparable
front_preceded_by-more-requires-clause-null_comparable g c = c.line.invariant.comparable

pub bounds-self-inside-self-inside : goal.bounds-self-inside-self-inside
bounds-self-inside-self-inside g c =
    let i = c.self.inside in
    let n = table_count i.firsts i.count i.row.blocks c.args.self.now c.self.invariant c.self.view_is in let asked = c.requires in let long = c.self.invariant.long in omega (arith, n, asked, long)

pub invariant_of-self : goal.invariant_of-self
invariant_of-self g c =
    let i = c.self.inside in let l = c.line.invariant in let more = c.line.inside.row.blocks in
    let n = table_count i.firsts i.count i.row.blocks c.args.self.now c.self.invariant c.self.view_is in let asked = c.requires in
    let (m, is, same, (t, led)) = c.front_preceded_by-more.ensures more [] (sym (append-nil more)) (l.prev, l.last, l.linked) in
    let first = c.line.inside.first in
    table_with i.firsts i.count i.row.blocks m c.put_back.new.row.blocks first c.self.invariant (t, subst (λ p. Segment p first.ptr m t _) c.null.ensures led) (omega (arith, n, asked))
    (c.put_back.ensures ∙ c.null_comparable.ensures.0 ∙ c.distinct.ensures.0 ∙ c.join-row.ensures ∙ (λ j. c.taken.ensures.0 j ++ (is ∙ append-nil m) j))
    (subst (λ ls. AreNullComparable (box_addresses ls)) (sym (c.put_back.ensures ∙ c.null_comparable.ensures.0)) c.null_comparable.ensures.1)
    (subst (λ ls. AreDistinct (box_addresses ls)) (sym (c.put_back.ensures ∙ c.null_comparable.ensures.0 ∙ c.distinct.ensures.0)) (c.distinct.ensures.1 (takes_space _ _ _)))

pub returns : goal.returns
returns g c =
    let i = c.self.inside in let l = c.line.invariant in let more = c.line.inside.row.blocks in
    let n = table_count i.firsts i.count i.row.blocks c.args.self.now c.self.invariant c.self.view_is in let asked = c.requires in
    let (m, is, same, (t, led)) = c.front_preceded_by-more.ensures more [] (sym (append-nil more)) (l.prev, l.last, l.linked) in
    let first = c.line.inside.first in
    table_with_shown i.firsts i.count i.row.blocks m c.put_back.new.row.blocks first c.args.self.now c.args.line c.self.invariant (t, subst (λ p. Segment p first.ptr m t _) c.null.ensures led) (omega (arith, n, asked))
    (c.put_back.ensures ∙ c.null_comparable.ensures.0 ∙ c.distinct.ensures.0 ∙ c.join-row.ensures ∙ (λ j. c.taken.ensures.0 j ++ (is ∙ append-nil m) j))
    (subst (λ ls. AreNullComparable (box_addresses ls)) (sym (c.put_back.ensures ∙ c.null_comparable.ensures.0)) c.null_comparable.ensures.1)
    (subst (λ ls. AreDistinct (box_addresses ls)) (sym (c.put_back.ensures ∙ c.null_comparable.ensures.0 ∙ c.distinct.ensures.0)) (c.distinct.ensures.1 (takes_space _ _ _)))
    c.self.view_is (same ∙ c.line.view_is)
