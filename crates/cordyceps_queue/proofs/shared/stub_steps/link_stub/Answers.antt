use Rattle.std.proofs.Common.{refl, sym, subst, inl, ◌∙◌, rules}
use Rattle.cordyceps_queue.specs.Shared.Bits.{Knows}
use Rattle.cordyceps_queue.proofs.SharedTheory.PartsJoin.{stage_hand, none_near, may_join}
use Rattle.cordyceps_queue.proofs.SharedTheory.UsesWrite.{stub_linked, still_has, stub_link}
use Rattle.cordyceps_queue.proofs.SharedTheory.StepTells.{told}
use Rattle.cordyceps_queue.proofs.shared.stub_steps.link_stub.Goals as goal

pub store-requires : goal.store-requires
store-requires g c =
    let q = c.requires.stage in
    let near = q.1 in
    let (tail, stub, old, is_stub) = c.requires.knows in
    let n = c.link_to.ensures ∙ stub_link c.args.seat.now.me c.args.stub c.args.old stub old is_stub in
    let t = c.requires.table in (
      search rules,
      search rules,
      stub_linked _ _ _ (stage_hand _ _ c.args.seat.now.me q.0)
          (none_near _ _ q.0.back) q.0.named (may_join c.args.seat.now.me.0 q.0.back) c.args._tail.room c.args.old.room
          _
          _ refl n q.1 q.0.stage,
    )

pub returns-clause-answer : goal.returns-clause-answer
returns-clause-answer g c = (told c.store.ensures).1 c.args._tail.room c.args.old.room c.requires.stage.0.stage

pub returns-clause-knows : goal.returns-clause-knows
returns-clause-knows g c =
    still_has c.args.seat.now.me c.store.new.seat.me c.args._tail (told c.store.ensures).0
    (subst (λ l. Knows l c.args._tail.room) (sym c.requires.stage.0.stage) (inl refl)) c.requires.knows.0
