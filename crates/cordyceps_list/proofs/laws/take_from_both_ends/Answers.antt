use Rattle.std.proofs.Common.{◌++◌, drop, length, length-append, ap, ◌∙◌, arith}
use Rattle.cordyceps_list.proofs.Turning.{all_there, first_turn, last_turn}
use Rattle.cordyceps_list.proofs.laws.take_from_both_ends.Goals.{then-turn, else-turn}
use Rattle.cordyceps_list.proofs.laws.take_from_both_ends.Goals as goal

pub move_first-requires : goal.move_first-requires
move_first-requires g c =
    let t = c.loop-turn in
    let all = ap length (all_there c.args.turns.now (drop t.turn-index c.args.turns.now) c.args.list t.firsts t.left t.lasts t.invariant) in
    omega (arith, all, length-append t.firsts t.left, length-append (t.firsts ++ t.left) t.lasts)

pub move_last-requires : goal.move_last-requires
move_last-requires g c =
    let t = c.loop-turn in
    let all = ap length (all_there c.args.turns.now (drop t.turn-index c.args.turns.now) c.args.list t.firsts t.left t.lasts t.invariant) in
    omega (arith, all, length-append t.firsts t.left, length-append (t.firsts ++ t.left) t.lasts)

pub loop-turn-preserved : goal.loop-turn-preserved
loop-turn-preserved g c =
    elim c.if-turn.branch [
      | then-turn w ↦ first_turn c.args.turns.now c.loop-turn.turn-index _ c.args.list c.loop-turn.firsts c.loop-turn.left c.loop-turn.lasts c.if-turn.firsts c.if-turn.left c.if-turn.lasts (omega arith) w.if-turn.true c.loop-turn.invariant (w.firsts-is ∙ w.move_first.ensures.firsts) (w.left-is ∙ w.move_first.ensures.left) w.lasts-is
      | else-turn w ↦ last_turn c.args.turns.now c.loop-turn.turn-index _ c.args.list c.loop-turn.firsts c.loop-turn.left c.loop-turn.lasts c.if-turn.firsts c.if-turn.left c.if-turn.lasts (omega arith) w.if-turn.false c.loop-turn.invariant w.firsts-is (w.left-is ∙ w.move_last.ensures.left) (w.lasts-is ∙ w.move_last.ensures.lasts)
    ]

pub returns-clause-once : goal.returns-clause-once
returns-clause-once g c =
    let t = c.loop-turn in
    all_there c.args.turns.now (drop t.turn-index c.args.turns.now) c.args.list t.firsts t.left t.lasts t.invariant
