use Rattle.std.proofs.Common.{sym, subst}
use Rattle.cordyceps_shared_uses.specs.Accounts.{Entries}
use Rattle.cordyceps_shared_uses.specs.Ways.{Seat, Woken}
use Rattle.cordyceps_shared_uses.proofs.Scheduling.{woken_none, woken_more}
use Rattle.cordyceps_shared_uses.proofs.scheduler.threads.wake.Goals as goal
use Rattle.cordyceps_shared_uses.proofs.scheduler.threads.wake.Goals.{in-Some, in-None}

pub loop-turn-init : goal.loop-turn-init
loop-turn-init g c = woken_none c.args.mine.now c.args.party.now

pub loop-turn-preserved : goal.loop-turn-preserved
loop-turn-preserved g c =
    let first = c.args.party.now in
    let a = c.args.mine.now in
    let b = c.wake_first-woken.new.mine in
    elim c.match-woken.branch [
      | in-Some w ↦
          subst (λ (p : Seat). Woken a b first p) (sym w.party-is) (woken_more w.in-Some.task b w.send.new.party c.loop-turn.invariant w.in-Some.ensures w.send.ensures)
      | in-None w ↦
          subst (λ (p : Seat). Woken a b first p) (sym w.party-is) (subst (λ (k : Entries). Woken a k first c.loop-turn.party) (sym w.in-None.ensures) c.loop-turn.invariant)
    ]
