use Rattle.std.proofs.Common.{◌≡◌, ◌+◌, ◌-◌, ◌<◌, length, take, drop, sym, ap, ◌∙◌, rules, arith, add-one}
use Rattle.cordyceps_shared.specs.FreeChains.{leads}
use Rattle.cordyceps_shared.proofs.Places.{near_first, near_drop}
use Rattle.cordyceps_shared.specs.declared.layout.TheConstants.{LINKS}
use Rattle.cordyceps_queue.proofs.SharedTheory.UsesShare.{skips}
use Rattle.cordyceps_shared.proofs.TrackRooms.{room_at, last_same}
use Rattle.cordyceps_queue.proofs.SharedTheory.StepTells.{told}
use Rattle.cordyceps_queue.proofs.shared.linking.skip_rooms.Goals as goal

pub overflow_sub-last : goal.overflow_sub-last
overflow_sub-last g c =
    let rooms = c.args.seat.now.me.0.free in
    let count = c.requires.rooms.0.tracks.count in
    let few = c.requires.rooms.1 in
    let more = c.loop-room-test.true in
    let low : c.loop-room._room < length rooms = omega arith in
    let (r, rs, from, _, _, _) = room_at rooms c.loop-room._room low in
    let at = c.loop-room.invariant.at r rs from in
    omega arith

pub overflow_add-last : goal.overflow_add-last
overflow_add-last g c =
    let rooms = c.args.seat.now.me.0.free in
    let count = c.requires.rooms.0.tracks.count in
    let few = c.requires.rooms.1 in
    let more = c.loop-room-test.true in
    let low : c.loop-room._room < length rooms = omega arith in
    let (r, rs, from, _, _, _) = room_at rooms c.loop-room._room low in
    let at = c.loop-room.invariant.at r rs from in
    let near = near_first c.args.words.now.table_id.slots r rs (drop c.loop-room._room rooms) from (near_drop c.args.words.now.table_id.slots c.loop-room._room rooms c.requires.near) in
    let table = c.requires.table in
    search rules

pub load-requires : goal.load-requires
load-requires g c =
    let rooms = c.args.seat.now.me.0.free in
    let count = c.requires.rooms.0.tracks.count in
    let few = c.requires.rooms.1 in
    let more = c.loop-room-test.true in
    let low : c.loop-room._room < length rooms = omega arith in
    let (r, rs, from, _, _, _) = room_at rooms c.loop-room._room low in
    let at = c.loop-room.invariant.at r rs from in
    let near = near_first c.args.words.now.table_id.slots r rs (drop c.loop-room._room rooms) from (near_drop c.args.words.now.table_id.slots c.loop-room._room rooms c.requires.near) in
    let table = c.requires.table in
    (search rules, search rules, skips _ _ _ c.loop-room.seat.me (λ e. c.requires.named (ap (λ m. m.0.known.share) (sym c.loop-room.invariant.me) ∙ e)))

pub loop-room-preserved : goal.loop-room-preserved
loop-room-preserved g c =
    let rooms = c.args.seat.now.me.0.free in
    let n = c.loop-room._room in
    let count = c.requires.rooms.0.tracks.count in
    let few = c.requires.rooms.1 in
    let more = c.loop-room-test.true in
    let low : n < length rooms = omega arith in
    let (r, rs, from, after, before, all) = room_at rooms n low in
    let i = c.loop-room.invariant in
    let at = i.at r rs from in
    let here : c.loop-room.at - 1 ≡ r = omega arith in
    let same = i.me in
    let s = (told c.load.ensures) (take n rooms) rs r (ap (λ m. m.0.free) same ∙ all) (ap (λ z. LINKS + z) here) in
    let d = (c.free_link-at.ensures (leads rs c.loop-room.seat.me.0.end) s.1.to s.1.bit s.1.is).0 in record {
      table = search rules;
      me = s.0 ∙ same;
      at = λ _ _ e. d ∙ ap (λ l. leads l c.loop-room.seat.me.0.end) (sym after ∙ (ap (λ z. drop z rooms) (sym (add-one n)) ∙ e));
      last = λ front x e. here ∙ last_same (take n rooms) front r x (sym before ∙ (ap (λ z. take z rooms) (sym (add-one n)) ∙ e));
      end = λ _. d ∙ (λ i. leads ((sym after ∙ ap (λ z. drop z rooms) (sym (add-one n))) i) (same i).0.end);
    }
