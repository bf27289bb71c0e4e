use Rattle.std.proofs.Common.{refl, sym, subst, rules}
use Rattle.cordyceps_queue.specs.Shared.Bits.{Knows}
use Rattle.cordyceps_queue.proofs.SharedTheory.PartsJoin.{stage_hand, none_near, may_join}
use Rattle.cordyceps_queue.proofs.SharedTheory.UsesKeep.{reads_again}
use Rattle.cordyceps_queue.proofs.SharedTheory.UsesWrite.{reads_for, match_map, still_has}
use Rattle.cordyceps_queue.proofs.SharedTheory.StepTells.{told}
use Rattle.cordyceps_queue.proofs.shared.steps.reread.Goals as goal

pub load-requires : goal.load-requires
load-requires g c =
    let q = c.requires.stage in
    let near = q.1 in
    let t = c.requires.table in (
      search rules,
      search rules,
      reads_again _ _ _ (stage_hand _ _ c.args.seat.now.me q.0)
          (none_near _ _ q.0.back) q.0.named (may_join c.args.seat.now.me.0 q.0.back) c.args.tail.room _ refl q.0.stage,
    )

pub leads_to-requires : goal.leads_to-requires
leads_to-requires g c =
    let f = reads_for c.args.seat.now.me c.load.new.seat.me c.args.tail c.load.result _ c.requires.knows
    ((told c.load.ensures).1 c.args.tail.room c.requires.stage.0.stage) in
    (f.next, f.to, f.read)

pub returns-clause-answer : goal.returns-clause-answer
returns-clause-answer g c =
    let m = c.args.seat.now.me in
    let k = c.load.new.seat.me in
    let at = c.requires.stage.0.stage in
    let f = reads_for m k c.args.tail c.load.result _ c.requires.knows ((told c.load.ensures).1 c.args.tail.room at) in
    let tells = f.told c.args.tail.room at in
    match_map c.leads_to.result
    (λ none. let t = tells.0 none in (t.0, t.1, still_has m k c.args.tail (told c.load.ensures).0 (subst (λ l. Knows l c.args.tail.room) (sym at) refl) c.requires.knows))
    (λ r e. (tells.1 r.room e.0, f.knows r e.0 e.1))
    (c.leads_to.ensures f.next f.to f.read)
