use Rattle.std.proofs.Common.{◌-◌, sym, ap, subst}
use Rattle.cordyceps_shared.specs.FreeChains.{FreeChain, first_rooms, rest_rooms}
use Rattle.cordyceps_queue.specs.declared.shared.spare.Spare.{Spare}
use Rattle.cordyceps_queue.specs.Shared.Parts.{TracksEnd}
use Rattle.cordyceps_queue.specs.Shared.View.{free_chain}
use Rattle.cordyceps_queue.proofs.SharedTheory.SpareRooms.{tracks_keeping, tracks_giving}
use Rattle.cordyceps_queue.proofs.shared.parting.split.Goals as goal

pub returns-clause-tracks : goal.returns-clause-tracks
returns-clause-tracks g c =
    let n = c.args.rooms in
    let p = c.skip_rooms-after in
    let spare = c.args.spare.now in
    let chain = free_chain c.args.seat.now.me.0 in
    let t = c.requires.rooms in
    let v = c.cut.ensures.views in
    let same = ap (λ m. free_chain m.0) p.ensures.seat.1 in
    let left : Spare = record { rooms = record { first = p.result.0; last = spare.rooms.last; count = spare.rooms.count - n }; end = spare.end } in
    let given : Spare = record { rooms = record { first = spare.rooms.first; last = p.result.1; count = n }; end = p.result.0 } in (
      subst (λ (q : FreeChain). TracksEnd left q) (sym (ap (λ m. free_chain m.0) v.0)) (subst (λ (q : FreeChain). TracksEnd left (rest_rooms n q)) (sym same) (tracks_keeping spare chain n p.result.0 t.0 p.ensures.first)),
      subst (λ (q : FreeChain). TracksEnd given q) (sym (ap (λ m. free_chain m.0) v.1)) (subst (λ (q : FreeChain). TracksEnd given (first_rooms n q)) (sym same) (tracks_giving spare chain n p.result.1 p.result.0 t.0 t.1 p.ensures.last p.ensures.end)),
    )
