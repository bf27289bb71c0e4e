use Rattle.std.proofs.Common.{◌++◌, reverse, refl, ap, ◌∙◌, arith}
use Rattle.std.proofs.lemmas.Grind.{common_steps}
use Rattle.cordyceps_base.specs.Element.{values}
use Rattle.cordyceps_list.specs.IterMut.{elements, to_lend, lender}
use Rattle.cordyceps_list.proofs.Turning.{all_firsts, all_once, first_turn, last_parts, last_turn}
use Rattle.cordyceps_list.proofs.laws.lending.copy_from_both_ends.Goals.{then-turn+in_ok-copy_first, else-turn+in_ok-copy_last}
use Rattle.cordyceps_list.proofs.laws.lending.copy_from_both_ends.Goals as goal

pub loop-turn-preserved : goal.loop-turn-preserved
loop-turn-preserved g c =
    let t = c.loop-turn in
    let n = c.if-turn in
    elim n.branch [
      | then-turn+in_ok-copy_first w ↦ let e = w.in_ok-copy_first.ensures in record {
        same_reference = ap lender w.left-is ∙ e.same_reference ∙ t.invariant.same_reference;
        elements_are = ap elements w.left-is ∙ e.elements ∙ t.invariant.elements_are;
        parts = first_turn c.args.turns.now t.turn-index _ (values c.args.list.now) t.firsts.items (to_lend t.left) (reverse t.lasts.items) n.firsts.items (to_lend n.left) (reverse n.lasts.items) (omega arith) w.if-turn.true t.invariant.parts (ap (λ v. v.items) w.firsts-is ∙ e.firsts) (ap to_lend w.left-is ∙ e.left) (ap (λ v. reverse v.items) w.lasts-is);
      }
      | else-turn+in_ok-copy_last w ↦ let e = w.in_ok-copy_last.ensures in record {
        same_reference = ap lender w.left-is ∙ e.same_reference ∙ t.invariant.same_reference;
        elements_are = ap elements w.left-is ∙ e.elements ∙ t.invariant.elements_are;
        parts = last_turn c.args.turns.now t.turn-index _ (values c.args.list.now) t.firsts.items (to_lend t.left) (reverse t.lasts.items) n.firsts.items (to_lend n.left) (reverse n.lasts.items) (omega arith) w.if-turn.false t.invariant.parts (ap (λ v. v.items) w.firsts-is) (ap to_lend w.left-is ∙ e.left) (ap (λ v. reverse v.items) w.lasts-is ∙ e.lasts);
      }
    ]

pub loop-init : goal.loop-init
loop-init g c =
    let t = c.loop-turn in
    let all = last_parts c.args.turns.now t.turn-index (values c.args.list.now) t.firsts.items (to_lend t.left) (reverse t.lasts.items) (omega arith) t.invariant.parts in
    record {
      same_reference = refl;
      elements_are = t.invariant.elements_are;
      firsts = ap (λ p. p.firsts ++ p.left) all;
      lasts = ap (λ p. p.lasts) all;
      fewer = grind (arith, common_steps, c.len-end.ensures);
    }

pub returns-clause-turns : goal.returns-clause-turns
returns-clause-turns g c =
    let l = c.loop in
    (all_firsts l.firsts.items (to_lend l.left) _ l.invariant.firsts (omega (arith, l.invariant.fewer)), l.invariant.lasts)

pub returns-clause-once : goal.returns-clause-once
returns-clause-once g c =
    let l = c.loop in
    all_once c.args.turns.now (values c.args.list.now) l.firsts.items (to_lend l.left) (reverse c.loop-turn.lasts.items) l.invariant.firsts l.invariant.lasts (omega (arith, l.invariant.fewer))
