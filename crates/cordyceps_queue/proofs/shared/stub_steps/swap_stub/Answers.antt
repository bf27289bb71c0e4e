use Rattle.std.proofs.Common.{refl, sym, subst, inl, inr, ◌∙◌, rules}
use Rattle.cordyceps_queue.specs.Shared.Bits.{Knows}
use Rattle.cordyceps_queue.proofs.SharedTheory.PartsJoin.{stage_hand, none_near, may_join}
use Rattle.cordyceps_queue.proofs.SharedTheory.UsesWrite.{stub_swapped, stub_bits, still_has, finds_use}
use Rattle.cordyceps_queue.proofs.SharedTheory.StepTells.{told}
use Rattle.cordyceps_queue.proofs.shared.stub_steps.swap_stub.Goals as goal

pub swap-requires : goal.swap-requires
swap-requires g c =
    let q = c.requires.stage in
    let t = c.requires.table in
    let (_, of_stub, is_stub) = c.requires.knows in
    let n = c.pointer.ensures ∙ stub_bits c.args.seat.now.me c.args.stub of_stub is_stub in (
      search rules,
      search rules,
      stub_swapped _ _ _ (stage_hand _ _ c.args.seat.now.me q) (none_near _ _ q.back) q.named
          (may_join c.args.seat.now.me.0 q.back) c.args._tail.room _ n q.stage,
    )

pub returns-clause-answer : goal.returns-clause-answer
returns-clause-answer g c =
    let f = finds_use c.swap.new.seat.me c.swap.result c.pointed.result _ (told c.swap.ensures).1 c.pointed.ensures in
    (f.1 c.args._tail.room c.requires.stage.stage).0

pub returns-clause-near : goal.returns-clause-near
returns-clause-near g c =
    let f = finds_use c.swap.new.seat.me c.swap.result c.pointed.result _ (told c.swap.ensures).1 c.pointed.ensures in
    (f.1 c.args._tail.room c.requires.stage.stage).1

pub returns-clause-knows : goal.returns-clause-knows
returns-clause-knows g c =
    let m = c.args.seat.now.me in
    let k = c.swap.new.seat.me in
    let at = c.requires.stage.stage in
    let (of_tail, of_stub, is_stub) = c.requires.knows in
    let f = finds_use k c.swap.result c.pointed.result _ (told c.swap.ensures).1 c.pointed.ensures in (
      still_has m k c.args._tail (told c.swap.ensures).0 (subst (λ l. Knows l c.args._tail.room) (sym at) (inl refl)) of_tail,
      still_has m k c.args.stub (told c.swap.ensures).0 (subst (λ l. Knows l c.args.stub.room) (sym at) (inr is_stub)) of_stub,
      f.0,
    )
