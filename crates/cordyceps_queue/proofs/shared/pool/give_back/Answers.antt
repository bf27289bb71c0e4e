use Rattle.std.proofs.Common.{◌≡◌, ◌-◌, ◌≤◌, length, take, drop, List, ◌∷◌, ◌++◌, [], ℕ, sym, ap, ◌∙◌, subst}
use Rattle.cordyceps_shared.specs.FreeChains.{FreeChain, first_rooms, rest_rooms}
use Rattle.cordyceps_shared.specs.Pools.{Packs}
use Rattle.cordyceps_shared.proofs.Pools.{fits_given, packs_given}
use Rattle.cordyceps_queue.specs.declared.shared.spare.Spare.{Spare}
use Rattle.cordyceps_queue.specs.Shared.Parts.{TracksEnd}
use Rattle.cordyceps_queue.specs.Shared.View.{View, free_chain, all_rooms}
use Rattle.cordyceps_queue.proofs.SharedTheory.SpareRooms.{tracks_keeping}
use Rattle.cordyceps_queue.proofs.shared.pool.give_back.Goals as goal

pub pack-requires : goal.pack-requires
pack-requires g c =
    let m = c.args.seat.now.me in
    let e = c.look_at_pool-has_none.ensures in
    let view = ap (λ q. q.0) e.gathered in
    let t = c.requires.rooms in
    let (_, _, few) = c.requires.table.1 in
    fits_given c.args.words.now.table_id.slots c.args.rooms c.skip_rooms-after.result.1 c.args.spare.now.rooms (all_rooms m.0) c.requires.hand.near few (subst (λ (v : View _). length v.free ≤ c.args.words.now.table_id.slots) view e.few) t.0.tracks t.1 c.if-rooms-eq0.false
    (λ before r is. c.skip_rooms-after.ensures.last before r (ap (λ v. take c.args.rooms v.free) view ∙ is))

pub put-requires-clause-bare : goal.put-requires-clause-bare
put-requires-clause-bare g c =
    let same = c.skip_rooms-after.ensures.seat.1 ∙ c.look_at_pool-has_none.ensures.gathered in
    (ap (λ q. q.0.back) same, λ none. c.requires.hand.named (sym (ap (λ q. q.0.known.share) same) ∙ none))

pub put-requires-clause-packs : goal.put-requires-clause-packs
put-requires-clause-packs g c =
    let m = c.args.seat.now.me in
    let e = c.look_at_pool-has_none.ensures in
    let view = ap (λ q. q.0) e.gathered in
    let same = c.skip_rooms-after.ensures.seat.1 ∙ e.gathered in
    let t = c.requires.rooms in
    let (_, _, few) = c.requires.table.1 in
    let last : (before : List ℕ) (r : ℕ) → take c.args.rooms (all_rooms m.0).rooms ≡ before ++ r ∷ [] → c.skip_rooms-after.result.1 ≡ r = λ before r is. c.skip_rooms-after.ensures.last before r (ap (λ v. take c.args.rooms v.free) view ∙ is) in
    subst (λ (q : FreeChain). Packs c.pack.result (first_rooms c.args.rooms q)) (sym (ap (λ q. free_chain q.0) same))
    (packs_given c.args.rooms c.skip_rooms-after.result.1 c.pack.result c.args.spare.now.rooms (all_rooms m.0) c.pack.ensures
    (fits_given c.args.words.now.table_id.slots c.args.rooms c.skip_rooms-after.result.1 c.args.spare.now.rooms (all_rooms m.0) c.requires.hand.near few (subst (λ (v : View _). length v.free ≤ c.args.words.now.table_id.slots) view e.few) t.0.tracks t.1 c.if-rooms-eq0.false last)
    t.0.tracks t.1 c.if-rooms-eq0.false last)

pub returns-clause-tracks : goal.returns-clause-tracks
returns-clause-tracks g c =
    let m = c.args.seat.now.me in
    let n = c.args.rooms in
    let spare = c.args.spare.now in
    let e = c.look_at_pool-has_none.ensures in
    let view = ap (λ q. q.0) e.gathered in
    let same = c.skip_rooms-after.ensures.seat.1 ∙ e.gathered in
    let left : Spare = record { rooms = record { first = c.skip_rooms-after.result.0; last = spare.rooms.last; count = spare.rooms.count - n }; end = spare.end } in
    subst (λ (q : FreeChain). TracksEnd left q) (sym (ap (λ q. free_chain q.0) c.if-not-put.ensures.gives ∙ ap (λ q. rest_rooms n (free_chain q.0)) same))
    (tracks_keeping spare (all_rooms m.0) n c.skip_rooms-after.result.0 c.requires.rooms.0 (λ r rs is. c.skip_rooms-after.ensures.first r rs (ap (λ v. drop n v.free) view ∙ is)))
