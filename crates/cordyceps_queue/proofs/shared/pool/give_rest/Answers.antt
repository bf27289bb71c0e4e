use Rattle.std.proofs.Common.{sym, ap, ◌∙◌, subst, arith}
use Rattle.cordyceps_shared.specs.FreeChains.{FreeChain, first_rooms, rest_rooms}
use Rattle.cordyceps_shared.specs.Pools.{Packs}
use Rattle.cordyceps_shared.proofs.Pools.{fits_left, packs_left}
use Rattle.cordyceps_queue.specs.declared.shared.spare.Spare.{Spare}
use Rattle.cordyceps_queue.specs.Shared.Parts.{TracksEnd}
use Rattle.cordyceps_queue.specs.Shared.View.{free_chain}
use Rattle.cordyceps_queue.proofs.SharedTheory.SpareRooms.{tracks_giving}
use Rattle.cordyceps_queue.proofs.shared.pool.give_rest.Goals as goal

pub pack-requires : goal.pack-requires
pack-requires g c =
    let m = c.args.seat.now.me in
    let t = c.requires.rooms in
    let (_, _, few) = c.requires.table.1 in
    fits_left c.args.words.now.table_id.slots c.args.rooms c.skip_rooms-after.result.0 c.args.spare.now.rooms (free_chain m.0) c.requires.rest.near few c.requires.few t.0.tracks t.1 c.skip_rooms-after.ensures.first

pub put_rest-requires-clause-packs : goal.put_rest-requires-clause-packs
put_rest-requires-clause-packs g c =
    let m = c.args.seat.now.me in
    let t = c.requires.rooms in
    let (_, _, few) = c.requires.table.1 in
    subst (λ (q : FreeChain). Packs c.pack.result (rest_rooms c.args.rooms q)) (sym (ap (λ q. free_chain q.0) c.skip_rooms-after.ensures.seat.1))
    (packs_left c.args.rooms c.skip_rooms-after.result.0 c.pack.result c.args.spare.now.rooms (free_chain m.0) c.pack.ensures
    (fits_left c.args.words.now.table_id.slots c.args.rooms c.skip_rooms-after.result.0 c.args.spare.now.rooms (free_chain m.0) c.requires.rest.near few c.requires.few t.0.tracks t.1 c.skip_rooms-after.ensures.first)
    t.0.tracks t.1 c.skip_rooms-after.ensures.first)

pub returns-clause-tracks : goal.returns-clause-tracks
returns-clause-tracks g c =
    let m = c.args.seat.now.me in
    let n = c.args.rooms in
    let spare = c.args.spare.now in
    let p = c.skip_rooms-after in
    let t = c.requires.rooms in
    let kept : Spare = record { rooms = record { first = spare.rooms.first; last = p.result.1; count = n }; end = p.result.0 } in
    subst (λ (q : FreeChain). TracksEnd kept q) (sym (ap (λ q. free_chain q.0) c.if-not-put_rest.ensures.gives ∙ ap (λ q. first_rooms n (free_chain q.0)) p.ensures.seat.1))
    (tracks_giving spare (free_chain m.0) n p.result.1 p.result.0 t.0 (omega arith) p.ensures.last p.ensures.end)
