use Rattle.std.proofs.Common.{◌-◌, sym, ap, ◌∙◌, subst, arith}
use Rattle.cordyceps_shared.specs.FreeChains.{FreeChain, Tracks, first_rooms, rest_rooms}
use Rattle.cordyceps_shared.specs.Pools.{Packs}
use Rattle.cordyceps_shared.specs.declared.free.FreeRooms.{FreeRooms}
use Rattle.cordyceps_shared.proofs.Pools.{fits_given, packs_given}
use Rattle.cordyceps_shared.proofs.TrackRooms.{tracks_keeping}
use Rattle.cordyceps_stack.proofs.SharedTheory.PoolJoins.{given_last}
use Rattle.cordyceps_stack.proofs.shared.pool.give_back.Goals as goal

pub pack-requires : goal.pack-requires
pack-requires g c =
    let m = c.args.seat.now.me in
    let n = c.args.rooms in
    let last = c.skip_rooms-after.result.1 in
    let e = c.look_at_pool.ensures in
    let t = c.requires.rooms in
    let many = c.requires.table.1.1 in
    fits_given c.args.words.now.table_id.slots n last c.args.free.now m.0.free c.requires.rest.near (omega arith) e.few t.0 t.1 c.if-rooms-eq0.false
    (given_last n last m c.look_at_pool.new.seat.me e.same.1 c.skip_rooms-after.ensures.last)

pub put-requires-clause-packs : goal.put-requires-clause-packs
put-requires-clause-packs g c =
    let m = c.args.seat.now.me in
    let n = c.args.rooms in
    let last = c.skip_rooms-after.result.1 in
    let e = c.look_at_pool.ensures in
    let t = c.requires.rooms in
    let many = c.requires.table.1.1 in
    let last_is = given_last n last m c.look_at_pool.new.seat.me e.same.1 c.skip_rooms-after.ensures.last in
    subst (λ (q : FreeChain). Packs c.pack.result (first_rooms n q)) (sym (ap (λ q. q.0.free) (c.skip_rooms-after.ensures.seat.1 ∙ e.same.1)))
    (packs_given n last c.pack.result c.args.free.now m.0.free c.pack.ensures
    (fits_given c.args.words.now.table_id.slots n last c.args.free.now m.0.free c.requires.rest.near (omega arith) e.few t.0 t.1 c.if-rooms-eq0.false last_is)
    t.0 t.1 c.if-rooms-eq0.false last_is)

pub returns-clause-tracks : goal.returns-clause-tracks
returns-clause-tracks g c =
    let n = c.args.rooms in
    let free = c.args.free.now in
    let p = c.skip_rooms-after.ensures in
    let q = c.look_at_pool.new.seat.me.0.free in
    let same = ap (λ m. m.0.free) c.look_at_pool.ensures.same.1 in
    let left : FreeRooms = record { first = c.skip_rooms-after.result.0; last = free.last; count = free.count - n } in
    let gave = c.if-not-put.ensures in
    subst (λ (z : FreeChain). Tracks left z) (sym (ap (λ m. m.0.free) gave.gives ∙ ap (λ m. rest_rooms n m.0.free) p.seat.1))
    (tracks_keeping free q n c.skip_rooms-after.result.0 (subst (λ (z : FreeChain). Tracks free z) (sym same) c.requires.rooms.0) p.first)
