use Rattle.std.proofs.Common.{[], ◌∷◌, refl, sym, subst}
use Rattle.cordyceps_shared.specs.Places.{ItemAt}
use Rattle.cordyceps_queue.specs.History.{Event}
use Rattle.cordyceps_queue.specs.Shared.Parts.{Tries}
use Rattle.cordyceps_queue.specs.Shared.View.{name}
use Rattle.cordyceps_queue.proofs.CoreTheory.Basics.{at_more}
use Rattle.cordyceps_queue.proofs.SharedTheory.WordsAsMachine.{at_after}
use Rattle.cordyceps_queue.proofs.shared.tries.advance.Goals as goal

pub add_room-requires-clause-near : goal.add_room-requires-clause-near
add_room-requires-clause-near g c =
    let E = g.row.E.Denot in
    let m = c.args.seat.now.me in
    let k = c.attempt-tried.new.seat.me in
    let look : Event _ E = Event.Look (name m.0) in
    let h = subst (λ r. Tries (look ∷ []) c.args.words.now.table_id.slots m k c.attempt-tried.result.0.room r) c.in-Out.is c.attempt-tried.ensures.answer in (
      (λ i r a. h.right.near i r (at_more k.0.free k.0.back i r a)),
      h.right.near _ c.in-Out.room
          (at_after k.0.free k.0.back 0 c.in-Out.room (subst (λ l. ItemAt l 0 c.in-Out.room) (sym h.back) refl)),
      h.right.inside,
    )
