use Rattle.std.proofs.Common.{◌-◌, sym, ap, subst}
use Rattle.cordyceps_shared.specs.FreeChains.{Tracks, first_rooms, rest_rooms, FreeChain}
use Rattle.cordyceps_shared.specs.declared.free.FreeRooms.{FreeRooms}
use Rattle.cordyceps_shared.proofs.TrackRooms.{tracks_keeping, tracks_giving}
use Rattle.cordyceps_stack.proofs.shared.parting.split.Goals as goal

pub returns-clause-tracks : goal.returns-clause-tracks
returns-clause-tracks g c =
    let n = c.args.rooms in
    let p = c.skip_rooms-after in
    let m = c.args.seat.now.me.0.free in
    let t = c.requires.rooms in
    let v = c.cut.ensures.views in
    let same = ap (λ m. m.0.free) p.ensures.seat.1 in
    let left : FreeRooms = record { first = p.result.0; last = c.args.free.now.last; count = c.args.free.now.count - n } in
    let given : FreeRooms = record { first = c.args.free.now.first; last = p.result.1; count = n } in (
      subst (λ (q : FreeChain). Tracks left q) (sym (ap (λ m. m.0.free) v.0)) (subst (λ (q : FreeChain). Tracks left (rest_rooms n q)) (sym same) (tracks_keeping c.args.free.now m n p.result.0 t.0 p.ensures.first)),
      subst (λ (q : FreeChain). Tracks given q) (sym (ap (λ m. m.0.free) v.1)) (subst (λ (q : FreeChain). Tracks given (first_rooms n q)) (sym same) (tracks_giving c.args.free.now m n p.result.1 t.0 t.1 p.ensures.last)),
    )
