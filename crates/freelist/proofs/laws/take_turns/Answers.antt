use Rattle.std.proofs.Common.{◌≡◌, ◌+◌, take, sym, subst, arith, suc, ap, ◌∙◌}
use Rattle.std.proofs.Math.Seq.{take-suc}
use Rattle.freelist.specs.Users.{BothCarryOut}
use Rattle.freelist.proofs.Calls.{carries_none, both_then}
use Rattle.freelist.proofs.laws.take_turns.Goals as goal

pub loop-turn-init : goal.loop-turn-init
loop-turn-init g c = (carries_none g.T.Linked.element c.args.first.now, carries_none g.T.Linked.element c.args.second.now)

pub loop-turn-preserved : goal.loop-turn-preserved
loop-turn-preserved g c =
    let el = g.T.Linked.element in
    let i = c.loop-turn.turn-index in
    let l = c.loop-turn in
    let n = c.take_turn.new in
    let next : i + 1 ≡ suc i = omega arith in
    let both = both_then el (take i c.args.turns.now) _ c.args.first.now l.first n.first c.args.second.now l.second n.second l.invariant c.take_turn.ensures in
    subst (λ z. BothCarryOut el z c.args.first.now n.first c.args.second.now n.second) (sym (ap (λ k. take k c.args.turns.now) next ∙ take-suc c.args.turns.now i _ c.loop-turn-test.true)) both
