use Rattle.std.proofs.Common.{refl, sym, subst, rules}
use Rattle.cordyceps_queue.specs.Shared.Bits.{Knows}
use Rattle.cordyceps_queue.proofs.SharedTheory.PartsJoin.{stage_hand, none_near, may_join}
use Rattle.cordyceps_queue.proofs.SharedTheory.UsesKeep.{heads_of}
use Rattle.cordyceps_queue.proofs.SharedTheory.UsesWrite.{still_has}
use Rattle.cordyceps_queue.proofs.SharedTheory.StepTells.{told}
use Rattle.cordyceps_queue.proofs.shared.stub_steps.is_head.Goals as goal

pub load-requires : goal.load-requires
load-requires g c =
    let q = c.requires.stage in
    let t = c.requires.table in (
      search rules,
      search rules,
      heads_of _ _ _ (stage_hand _ _ c.args.seat.now.me q.0)
          (none_near _ _ q.0.back) q.0.named (may_join c.args.seat.now.me.0 q.0.back) c.args.tail.room q.0.stage,
    )

pub returns-clause-knows : goal.returns-clause-knows
returns-clause-knows g c = still_has c.args.seat.now.me c.load.new.seat.me c.args.tail (told c.load.ensures).0
    (subst (λ l. Knows l c.args.tail.room) (sym c.requires.stage.0.stage) refl) c.requires.knows
