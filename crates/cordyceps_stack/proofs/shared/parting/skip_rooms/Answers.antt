use Rattle.std.proofs.Common.{◌≡◌, ◌+◌, ◌-◌, suc, [], ◌∷◌, ◌++◌, refl, inr, sym, ap, ◌∙◌, subst, arith, rules, add-one}
use Rattle.cordyceps_shared.specs.FreeChains.{leads, MayJoin}
use Rattle.cordyceps_shared.specs.Slots.{Near}
use Rattle.cordyceps_shared.proofs.Places.{near_take}
use Rattle.cordyceps_stack.specs.Shared.Slots.{vacant, all_vacant, last_link}
use Rattle.cordyceps_stack.specs.Shared.View.{held_rooms}
use Rattle.cordyceps_stack.proofs.SharedTheory.PartsJoin.{leads_first, passes_first, held_long, next_free, next_vacant, follows_next, follows_all, vacant_back, back_joins}
use Rattle.cordyceps_stack.proofs.SharedTheory.StepsKeep.{returns}
use Rattle.cordyceps_stack.proofs.shared.parting.skip_rooms.Goals as goal

pub loop-room-init : goal.loop-room-init
loop-room-init g c =
    let t = c.requires.rooms in
    let few = t.1 in
    let other = c.if-rooms-free.false in
    record {
      table = refl;
      view_is = refl;
      follows = passes_first c.args.rooms c.args.free.now.first c.args.seat.now.me c.hold.new.seat.me c.hold.ensures.holds (leads_first c.args.free.now c.args.seat.now.me.0.free c.args.rooms t.0 (omega arith));
    }

pub next-at-requires-clause-vacant : goal.next-at-requires-clause-vacant
next-at-requires-clause-vacant g c =
    let t = c.requires.rooms in
    let count = t.0.count in
    let few = t.1 in
    let f = c.loop-room.invariant.follows in
    let held = c.hold.new.seat.me.0 in
    let end = leads held.free.rooms held.free.end in
    let long = held_long c.args.rooms c.args.seat.now.me c.hold.new.seat.me c.hold.ensures.holds (omega arith) in
    let more = c.loop-room-test.true in
    let n = next_free c.loop-room.at c.loop-room.last c.loop-room._room (held_rooms held.doing) end c.loop-room.seat.me f (omega arith) in
    let at = n.at_is in
    let here : n.here ≡ c.loop-room.at - 1 = omega arith in
    let rest = all_vacant n.others end ++ all_vacant f.done (suc n.here) in
    (leads n.others end, rest, next_vacant _ _ _ _ end c.loop-room.seat.me f n ∙ ap (λ r. (r, vacant (leads n.others end)) ∷ rest) here)

pub loop-room-preserved : goal.loop-room-preserved
loop-room-preserved g c =
    let t = c.requires.rooms in
    let count = t.0.count in
    let few = t.1 in
    let i = c.loop-room.invariant in
    let f = i.follows in
    let held = c.hold.new.seat.me.0 in
    let end = leads held.free.rooms held.free.end in
    let long = held_long c.args.rooms c.args.seat.now.me c.hold.new.seat.me c.hold.ensures.holds (omega arith) in
    let more = c.loop-room-test.true in
    let n = next_free c.loop-room.at c.loop-room.last c.loop-room._room (held_rooms held.doing) end c.loop-room.seat.me f (omega arith) in
    let at = n.at_is in
    let here : c.loop-room.at - 1 ≡ n.here = omega arith in
    let rest = all_vacant n.others end ++ all_vacant f.done (suc n.here) in
    let turned = c.next-at.ensures.turned (leads n.others end) rest (next_vacant _ _ _ _ end c.loop-room.seat.me f n ∙ ap (λ r. (r, vacant (leads n.others end)) ∷ rest) (sym here)) in record {
      table = search rules;
      view_is = ap (λ m. m.0) turned.1 ∙ i.view_is;
      follows = follows_next _ _ _ _ end c.loop-room.seat.me c.next-at.new.seat.me f n (ap (λ m. m.1) turned.1 ∙ ap (λ r. rest ++ (r, vacant (leads n.others end)) ∷ []) here) (c.loop-room.at - 1) (c.loop-room._room + 1) c.next-at.result here (add-one c.loop-room._room) turned.0;
    }

pub load-requires : goal.load-requires
load-requires g c =
    let t = c.requires.rooms in
    let count = t.0.count in
    let few = t.1 in
    let i = c.loop-room.invariant in
    let held = c.hold.new.seat.me.0 in
    let slots = c.args.words.now.table_id.slots in
    let end = leads held.free.rooms held.free.end in
    let long = held_long c.args.rooms c.args.seat.now.me c.hold.new.seat.me c.hold.ensures.holds (omega arith) in
    let done = c.loop-room-test.false in
    let w = c.loop-room.seat.me in
    let all = follows_all c.loop-room.at c.loop-room.last c.loop-room._room (held_rooms held.doing) end w i.follows (omega arith) in
    let rooms = ap (λ v. held_rooms v.doing) (sym i.view_is) in
    let near : Near slots (held_rooms held.doing) = subst (λ v. Near slots (held_rooms v.doing)) (sym c.hold.ensures.holds.view_is) (near_take slots c.args.rooms c.args.seat.now.me.0.free.rooms c.requires.rest.near) in (
      search rules,
      search rules,
      returns _ _ _ w (subst (λ l. w.1 ≡ all_vacant l (last_link w.1)) rooms (vacant_back (held_rooms held.doing) end w.1 all.hand)) (subst (Near slots) rooms near)
          (subst (λ v. MayJoin record { rooms = held_rooms v.doing; end = last_link w.1 } v.free) (sym i.view_is) (back_joins (held_rooms held.doing) end w.1 held.free all.hand (inr refl))),
    )
