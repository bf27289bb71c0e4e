use Rattle.std.proofs.Common.{refl, sym, subst, rules}
use Rattle.cordyceps_queue.specs.Shared.Bits.{Knows}
use Rattle.cordyceps_queue.specs.declared.shared.uses.RoomUse.{RoomUse}
use Rattle.cordyceps_queue.proofs.SharedTheory.WordsAsMachine.{at_after}
use Rattle.cordyceps_queue.proofs.SharedTheory.UsesKeep.{reads_stub}
use Rattle.cordyceps_queue.proofs.SharedTheory.UsesWrite.{reads_for, match_map, still_has}
use Rattle.cordyceps_queue.proofs.SharedTheory.StepTells.{told}
use Rattle.cordyceps_queue.proofs.shared.stub_steps.look_first.Goals as goal

pub load-requires : goal.load-requires
load-requires g c =
    let h = c.requires.holding in
    let q = h.right in
    let t = c.requires.table in (
      search rules,
      search rules,
      reads_stub _ _ _ q.carries (λ i r a. q.near _ r (at_after _ _ i r a)) q.named h.joins q.stage,
    )

pub leads_to-requires : goal.leads_to-requires
leads_to-requires g c =
    let u : RoomUse = record { room = 0; bit = c.args.bit } in
    let f = reads_for c.args.seat.now.me c.load.new.seat.me u c.load.result _ c.requires.knows
    ((told c.load.ensures).1 c.requires.holding.right.stage) in
    (f.next, f.to, f.read)

pub returns-clause-answer : goal.returns-clause-answer
returns-clause-answer g c =
    let m = c.args.seat.now.me in
    let k = c.load.new.seat.me in
    let u : RoomUse = record { room = 0; bit = c.args.bit } in
    let f = reads_for m k u c.load.result _ c.requires.knows ((told c.load.ensures).1 c.requires.holding.right.stage) in
    let tells = f.told c.requires.holding.right.stage in
    match_map c.leads_to.result (λ none. tells.0 none) (λ r e. tells.1 r.room e.0) (c.leads_to.ensures f.next f.to f.read)

pub returns-clause-knows : goal.returns-clause-knows
returns-clause-knows g c =
    let m = c.args.seat.now.me in
    let k = c.load.new.seat.me in
    let u : RoomUse = record { room = 0; bit = c.args.bit } in
    let f = reads_for m k u c.load.result _ c.requires.knows ((told c.load.ensures).1 c.requires.holding.right.stage) in
    match_map c.leads_to.result
    (λ none. still_has m k u (told c.load.ensures).0 (subst (λ l. Knows l 0) (sym c.requires.holding.right.stage) refl)
    c.requires.knows)
    (λ r e. f.knows r e.0 e.1)
    (c.leads_to.ensures f.next f.to f.read)
