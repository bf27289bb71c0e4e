use Rattle.std.proofs.Common.{refl, sym, subst, ◌∙◌, rules}
use Rattle.cordyceps_queue.specs.Shared.Bits.{Knows}
use Rattle.cordyceps_queue.proofs.SharedTheory.PartsJoin.{stage_hand, none_near, may_join}
use Rattle.cordyceps_queue.proofs.SharedTheory.UsesWrite.{stub_begins, still_has}
use Rattle.cordyceps_queue.proofs.SharedTheory.StepTells.{told}
use Rattle.cordyceps_queue.proofs.shared.stub_steps.begin_stub.Goals as goal

pub load-requires : goal.load-requires
load-requires g c =
    let q = c.requires.stage in
    let t = c.requires.table in (
      search rules,
      search rules,
      stub_begins _ _ _ (stage_hand _ _ c.args.seat.now.me q)
          (none_near _ _ q.back) q.named (may_join c.args.seat.now.me.0 q.back) c.args._tail.room q.stage,
    )

pub returns-clause-answer : goal.returns-clause-answer
returns-clause-answer g c = (told c.load.ensures).1.told c.args._tail.room c.requires.stage.stage

pub returns-clause-knows : goal.returns-clause-knows
returns-clause-knows g c =
    let u = told c.load.ensures in
    let (_, bit_is, is_bit) = c.free_link.ensures u.1.next u.1.to u.1.bit u.1.link in (
      still_has c.args.seat.now.me c.load.new.seat.me c.args._tail u.0
          (subst (λ l. Knows l c.args._tail.room) (sym c.requires.stage.stage) refl) c.requires.knows,
      (u.1.knows ∙ sym bit_is, is_bit),
      refl,
    )
