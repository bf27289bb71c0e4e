use Rattle.std.proofs.Common.{sym, ap, ◌∙◌, subst, arith}
use Rattle.cordyceps_shared.specs.FreeChains.{FreeChain, Tracks, first_rooms, rest_rooms}
use Rattle.cordyceps_shared.specs.Pools.{Packs}
use Rattle.cordyceps_shared.specs.declared.free.FreeRooms.{FreeRooms}
use Rattle.cordyceps_shared.proofs.Pools.{fits_left, packs_left}
use Rattle.cordyceps_shared.proofs.TrackRooms.{tracks_giving}
use Rattle.cordyceps_stack.proofs.SharedTheory.PoolJoins.{given_last, left_first}
use Rattle.cordyceps_stack.proofs.shared.pool.give_rest.Goals as goal

pub pack-requires : goal.pack-requires
pack-requires g c =
    let m = c.args.seat.now.me in
    let n = c.args.rooms in
    let first = c.skip_rooms-after.result.0 in
    let e = c.look_at_pool.ensures in
    let t = c.requires.rooms in
    let many = c.requires.table.1.1 in
    fits_left c.args.words.now.table_id.slots n first c.args.free.now m.0.free c.requires.rest.near (omega arith) e.few t.0 t.1
    (left_first n first m c.look_at_pool.new.seat.me e.same.1 c.skip_rooms-after.ensures.first)

pub put_rest-requires-clause-packs : goal.put_rest-requires-clause-packs
put_rest-requires-clause-packs g c =
    let m = c.args.seat.now.me in
    let n = c.args.rooms in
    let first = c.skip_rooms-after.result.0 in
    let e = c.look_at_pool.ensures in
    let t = c.requires.rooms in
    let many = c.requires.table.1.1 in
    let first_is = left_first n first m c.look_at_pool.new.seat.me e.same.1 c.skip_rooms-after.ensures.first in
    subst (λ (q : FreeChain). Packs c.pack.result (rest_rooms n q)) (sym (ap (λ q. q.0.free) (c.skip_rooms-after.ensures.seat.1 ∙ e.same.1)))
    (packs_left n first c.pack.result c.args.free.now m.0.free c.pack.ensures
    (fits_left c.args.words.now.table_id.slots n first c.args.free.now m.0.free c.requires.rest.near (omega arith) e.few t.0 t.1 first_is)
    t.0 t.1 first_is)

pub returns-clause-tracks : goal.returns-clause-tracks
returns-clause-tracks g c =
    let m = c.args.seat.now.me in
    let n = c.args.rooms in
    let free = c.args.free.now in
    let p = c.skip_rooms-after in
    let e = c.look_at_pool.ensures in
    let t = c.requires.rooms in
    let kept : FreeRooms = record { first = free.first; last = p.result.1; count = n } in
    subst (λ (z : FreeChain). Tracks kept z) (sym (ap (λ s. s.0.free) c.if-not-put_rest.ensures.gives ∙ ap (λ s. first_rooms n s.0.free) (p.ensures.seat.1 ∙ e.same.1)))
    (tracks_giving free m.0.free n p.result.1 t.0 (omega arith) (given_last n p.result.1 m c.look_at_pool.new.seat.me e.same.1 p.ensures.last))
