use Rattle.std.proofs.Common.{rules, ap, ◌∙◌, sym}
use Rattle.cordyceps_queue.proofs.SharedTheory.BellKeeps.{listens, rings}
use Rattle.cordyceps_queue.proofs.SharedTheory.BellSeats.{rings_after}
use Rattle.cordyceps_queue.proofs.SharedTheory.StepTells.{told}
use Rattle.cordyceps_queue.proofs.shared.bell.ring.Goals as goal

pub load-requires : goal.load-requires
load-requires g c = (search rules, search rules, listens _ _ _ c.requires.rest.1 c.requires.rest.0)

pub swap-requires : goal.swap-requires
swap-requires g c =
    let heard = (told c.load.ensures).1 c.if-load-eq-RUNG.false in
    (search rules, search rules, rings _ _ _ (λ e. c.requires.rest.1 (sym heard.sees.share ∙ e)) (ap (λ v. v.stage) heard.view_is ∙ c.requires.rest.0))

pub returns-then-swap-eq-ASLEEP-clause-hears : goal.returns-then-swap-eq-ASLEEP-clause-hears
returns-then-swap-eq-ASLEEP-clause-hears g c =
    rings_after c.args.seat.now.me c.load.new.seat.me c.swap.new.seat.me ((told c.load.ensures).1 c.if-load-eq-RUNG.false) (told c.swap.ensures)

pub returns-else-swap-eq-ASLEEP-clause-hears : goal.returns-else-swap-eq-ASLEEP-clause-hears
returns-else-swap-eq-ASLEEP-clause-hears g c =
    rings_after c.args.seat.now.me c.load.new.seat.me c.swap.new.seat.me ((told c.load.ensures).1 c.if-load-eq-RUNG.false) (told c.swap.ensures)
