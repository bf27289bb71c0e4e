use Rattle.std.proofs.Common.{◌++◌, map, reverse, ap, ◌∙◌, arith}
use Rattle.cordyceps_base.specs.Element.{values}
use Rattle.cordyceps_list.proofs.Turning.{all_firsts, all_once, first_turn, last_parts, last_turn}
use Rattle.cordyceps_list.proofs.laws.reading.read_from_both_ends.Goals.{then-turn+in_ok-read_first, else-turn+in_ok-read_last}
use Rattle.cordyceps_list.proofs.laws.reading.read_from_both_ends.Goals as goal

pub loop-turn-preserved : goal.loop-turn-preserved
loop-turn-preserved g c =
    let t = c.loop-turn in
    let n = c.if-turn in
    elim n.branch [
      | then-turn+in_ok-read_first w ↦ let e = w.in_ok-read_first.ensures in first_turn c.args.turns.now t.turn-index _ (values c.args.list.now) (map (λ v. v.now) t.firsts.items) t.left (reverse (map (λ v. v.now) t.lasts.items)) (map (λ v. v.now) n.firsts.items) n.left (reverse (map (λ v. v.now) n.lasts.items)) (omega arith) w.if-turn.true t.invariant (ap (λ v. map (λ u. u.now) v.items) w.firsts-is ∙ e.firsts) (w.left-is ∙ e.left) (ap (λ v. reverse (map (λ u. u.now) v.items)) w.lasts-is)
      | else-turn+in_ok-read_last w ↦ let e = w.in_ok-read_last.ensures in last_turn c.args.turns.now t.turn-index _ (values c.args.list.now) (map (λ v. v.now) t.firsts.items) t.left (reverse (map (λ v. v.now) t.lasts.items)) (map (λ v. v.now) n.firsts.items) n.left (reverse (map (λ v. v.now) n.lasts.items)) (omega arith) w.if-turn.false t.invariant (ap (λ v. map (λ u. u.now) v.items) w.firsts-is) (w.left-is ∙ e.left) (ap (λ v. reverse (map (λ u. u.now) v.items)) w.lasts-is ∙ e.lasts)
    ]

pub loop-init : goal.loop-init
loop-init g c =
    let t = c.loop-turn in
    let all = last_parts c.args.turns.now t.turn-index (values c.args.list.now) (map (λ v. v.now) t.firsts.items) t.left (reverse (map (λ v. v.now) t.lasts.items)) (omega arith) t.invariant in
    record {
      firsts = ap (λ p. p.firsts ++ p.left) all;
      lasts = ap (λ p. p.lasts) all;
      fewer = omega (arith, c.len-more.ensures);
    }

pub returns-clause-turns : goal.returns-clause-turns
returns-clause-turns g c =
    let l = c.loop in
    (all_firsts (map (λ v. v.now) l.firsts.items) l.left _ l.invariant.firsts (omega (arith, l.invariant.fewer)), l.invariant.lasts)

pub returns-clause-once : goal.returns-clause-once
returns-clause-once g c =
    let l = c.loop in
    all_once c.args.turns.now (values c.args.list.now) (map (λ v. v.now) l.firsts.items) l.left (reverse (map (λ v. v.now) c.loop-turn.lasts.items)) l.invariant.firsts l.invariant.lasts (omega (arith, l.invariant.fewer))
