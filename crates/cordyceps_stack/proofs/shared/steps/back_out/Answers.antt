use Rattle.std.proofs.Common.{◌∷◌, sym, ap, ◌∙◌, subst, inr, rules}
use Rattle.atomic_table.specs.Table.{rest}
use Rattle.cordyceps_shared.specs.FreeChains.{leads}
use Rattle.cordyceps_shared.specs.Slots.{Near}
use Rattle.cordyceps_stack.specs.Shared.Plays.{SeatState}
use Rattle.cordyceps_stack.specs.Shared.Slots.{vacant, filled, last_link}
use Rattle.cordyceps_stack.specs.Shared.View.{held_rooms}
use Rattle.cordyceps_stack.proofs.SharedTheory.PartsJoin.{one_back}
use Rattle.cordyceps_stack.proofs.SharedTheory.StepsKeep.{near_one, returns}
use Rattle.cordyceps_stack.proofs.shared.steps.back_out.Goals as goal

pub exchange-requires : goal.exchange-requires
exchange-requires g c =
    let r = c.requires.ready in
    let slot = filled r.0 r.1.link in
    (search rules, (slot, r.1.hand ∙ ap (λ l. (c.args.room, slot) ∷ rest l) (sym r.1.hand)))

pub load-requires : goal.load-requires
load-requires g c =
    let r = c.requires.ready in
    let (table, number, had, y) = c.exchange.ensures in
    let is = y ∙ ap (λ (l : SeatState g.row.E.Denot). (c.args.seat.now.me.0, (c.args.room, vacant c.args.next) ∷ rest l.1)) (λ i. (c.args.seat.now.me.0, r.1.hand i)) in
    let doing = ap (λ m. m.0.doing) y ∙ r.1.doing in
    let hand = ap (λ m. m.1) is in (
      search rules,
      search rules,
      returns _ _ _ c.exchange.new.seat.me (one_back c.args.room c.args.next c.exchange.new.seat.me doing hand)
          (subst (λ d. Near c.args.words.now.table_id.slots (held_rooms d)) (sym doing) (near_one _ c.args.room r.1.inside))
          (inr (inr (ap (λ l. last_link l) hand ∙ (c.requires.next ∙ ap (λ m. leads m.0.free.rooms m.0.free.end) (sym y))))),
    )
