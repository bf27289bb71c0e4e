use Rattle.std.proofs.Common.{refl, sym, subst, rules}
use Rattle.cordyceps_queue.specs.Shared.Bits.{Knows}
use Rattle.cordyceps_queue.proofs.SharedTheory.PartsJoin.{stage_hand, none_near, may_join}
use Rattle.cordyceps_queue.proofs.SharedTheory.UsesKeep.{heads_of_stub}
use Rattle.cordyceps_queue.proofs.SharedTheory.UsesWrite.{finds_use}
use Rattle.cordyceps_queue.proofs.SharedTheory.StepTells.{told}
use Rattle.cordyceps_queue.proofs.shared.stub_steps.head_of_stub.Goals as goal

pub load-requires : goal.load-requires
load-requires g c =
    let q = c.requires.stage in
    let t = c.requires.table in (
      search rules,
      search rules,
      heads_of_stub _ _ _ (stage_hand _ _ c.args.seat.now.me q)
          (none_near _ _ q.back) q.named (may_join c.args.seat.now.me.0 q.back) q.stage,
    )

pub returns-clause-stub : goal.returns-clause-stub
returns-clause-stub g c =
    let f = finds_use c.load.new.seat.me c.load.result c.pointed.result _ (told c.load.ensures).1 c.pointed.ensures in
    (f.1 c.requires.stage.stage).0

pub returns-clause-room : goal.returns-clause-room
returns-clause-room g c =
    let f = finds_use c.load.new.seat.me c.load.result c.pointed.result _ (told c.load.ensures).1 c.pointed.ensures in
    (f.1 c.requires.stage.stage).1

pub returns-clause-bit : goal.returns-clause-bit
returns-clause-bit g c = (told c.load.ensures).0 0 (subst (λ l. Knows l 0) (sym c.requires.stage.stage) refl)
