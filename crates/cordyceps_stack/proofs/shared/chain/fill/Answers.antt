use Rattle.std.proofs.Common.{◌≡◌, ◌-◌, suc, ◌∷◌, [], ◌++◌, map, length, refl, sym, ap, ◌∙◌, subst, arith, rules, append-nil, append_assoc}
use Rattle.std.proofs.lemmas.List.{map-append, length-map, nil_from_length}
use Rattle.cordyceps_shared.specs.FreeChains.{Tracks, leads, first_rooms}
use Rattle.cordyceps_shared.specs.declared.free.FreeRooms.{FreeRooms}
use Rattle.cordyceps_shared.proofs.TrackRooms.{first_room}
use Rattle.cordyceps_stack.specs.Shared.Plays.{elements_then}
use Rattle.cordyceps_stack.specs.Shared.Slots.{filled, vacant, in_use_to, all_vacant}
use Rattle.cordyceps_stack.specs.Shared.View.{held_rooms}
use Rattle.cordyceps_stack.proofs.SharedTheory.ChainJoins.{first_of, first_vacant, fills_start, fills_turn, fills_next, has_filled, tracks_filled}
use Rattle.cordyceps_stack.proofs.SharedTheory.PartsJoin.{next_free_of}
use Rattle.cordyceps_stack.proofs.SharedTheory.StepTells.{told}
use Rattle.cordyceps_stack.proofs.shared.chain.fill.Goals as goal

pub hold-requires-clause-rest : goal.hold-requires-clause-rest
hold-requires-clause-rest g c = (c.requires.rest, refl)

pub put-next-requires-clause-vacant : goal.put-next-requires-clause-vacant
put-next-requires-clause-vacant g c =
    let n = length c.args.others in
    let m = c.args.seat.now.me in
    let t = c.requires.rooms in
    let first = first_of c.args.free.now m.0.free n t.0 t.1 in
    let end = (first_rooms (suc n) m.0.free).end in
    (leads first.others end, all_vacant first.others end, first_vacant (c.args.free.now.first - 1) (suc n) m c.hold.new.seat.me c.hold.ensures.holds first)

pub loop-handle-init : goal.loop-handle-init
loop-handle-init g c =
    let n = length c.args.others in
    let room = c.args.free.now.first - 1 in
    let m = c.args.seat.now.me in
    let k = c.hold.new.seat.me in
    let t = c.requires.rooms in
    let first = first_of c.args.free.now m.0.free n t.0 t.1 in
    let end = (first_rooms (suc n) m.0.free).end in
    let e = c.put-next.ensures.puts (leads first.others end) (all_vacant first.others end) (first_vacant room (suc n) m k c.hold.ensures.holds first) in
    let s = fills_start (suc n) room c.put-next.result c.args.handle m k c.put-next.new.seat.me c.hold.ensures.holds first e.0 e.1 in
    let long = s.long in record {
      table = refl;
      view_is = refl;
      count_is = omega arith;
      fills = s.fills;
      left = omega arith;
      elements = ap (λ l. map g.T.Linked.element l ++ c.args.others) s.elements;
    }

pub put-next-requires-in-Some-clause-vacant : goal.put-next-requires-in-Some-clause-vacant
put-next-requires-in-Some-clause-vacant g c =
    let held = c.put-next.new.seat.me.0 in
    let all = held_rooms held.doing in
    let end = leads held.free.rooms held.free.end in
    let last = c.loop-handle.last in
    let next = c.loop-handle.next in
    let w = c.loop-handle.seat.me in
    let i = c.loop-handle.invariant in
    let f = i.fills in
    let left = i.left in
    let more = ap (λ l. length l) c.in-Some.ensures in
    let n = next_free_of next f.left end f.next_is (omega arith) in
    let at = n.at_is in
    let here : n.here ≡ next - 1 = omega arith in
    let link = leads n.others end in
    let rest = all_vacant n.others end ++ in_use_to (f.done ++ (last, f.x) ∷ []) (suc n.here) in
    (link, rest, ap (λ m. m.1) (told c.turn.ensures) ∙ (fills_turn last next all end w f n ∙ ap (λ r. (r, vacant link) ∷ rest) here))

pub loop-handle-preserved : goal.loop-handle-preserved
loop-handle-preserved g c =
    let el = g.T.Linked.element in
    let held = c.put-next.new.seat.me.0 in
    let all = held_rooms held.doing in
    let end = leads held.free.rooms held.free.end in
    let last = c.loop-handle.last in
    let next = c.loop-handle.next in
    let w = c.loop-handle.seat.me in
    let k = c.put-next-in-Some.new.seat.me in
    let item = c.in-Some.handle in
    let i = c.loop-handle.invariant in
    let sum = i.count_is in
    let f = i.fills in
    let left = i.left in
    let more = ap (λ l. length l) c.in-Some.ensures in
    let n = next_free_of next f.left end f.next_is (omega arith) in
    let at = n.at_is in
    let here : n.here ≡ next - 1 = omega arith in
    let link = leads n.others end in
    let rest = all_vacant n.others end ++ in_use_to (f.done ++ (last, f.x) ∷ []) (suc n.here) in
    let e = c.put-next-in-Some.ensures.puts link rest (ap (λ m. m.1) (told c.turn.ensures) ∙ (fills_turn last next all end w f n ∙ ap (λ r. (r, vacant link) ∷ rest) here)) in
    let t = fills_next last next all end w k f n item (next - 1) c.put-next-in-Some.result (sym here) e.0 (ap (λ m. m.1) e.1 ∙ ap (λ r. (r, filled item link) ∷ rest) (sym here)) in
    let fewer = ap (λ l. length l) n.is in
    let same = ap (λ l. length l) t.left_are in
    let others = c.pop.new.self in
    let before = map el (elements_then f.done f.x) in record {
      table = search rules;
      view_is = ap (λ m. m.0) e.1 ∙ (ap (λ m. m.0) (told c.turn.ensures) ∙ i.view_is);
      count_is = omega arith;
      fills = t.fills;
      left = omega arith;
      elements = ap (λ l. map el l ++ others) t.elements_are
          ∙ (ap (λ l. l ++ others) (map-append el (elements_then f.done f.x) (item ∷ []))
          ∙ (append_assoc before (el item ∷ []) others ∙ (ap (λ l. before ++ l) (sym c.in-Some.ensures) ∙ i.elements)));
    }

pub returns-clause-filled : goal.returns-clause-filled
returns-clause-filled g c =
    let el = g.T.Linked.element in
    let n = length c.args.others in
    let room = c.args.free.now.first - 1 in
    let m = c.args.seat.now.me in
    let k = c.hold.new.seat.me in
    let p = c.put-next.new.seat.me in
    let t = c.requires.rooms in
    let low = t.1 in
    let count = t.0.count in
    let first = first_of c.args.free.now m.0.free n t.0 t.1 in
    let (rest_of, rooms, some_of) = first_room c.args.free.now m.0.free t.0 (omega arith) in
    let end = (first_rooms (suc n) m.0.free).end in
    let e = c.put-next.ensures.puts (leads first.others end) (all_vacant first.others end) (first_vacant room (suc n) m k c.hold.ensures.holds first) in
    let i = c.loop-handle.invariant in
    let f = i.fills in
    let over = c.in_default.ensures.0 in
    let none = nil_from_length f.left (i.left ∙ ap (λ l. length l) over) in
    let pushed = elements_then f.done f.x in
    let els = sym (append-nil (map el pushed)) ∙ (ap (λ l. map el pushed ++ l) (sym over) ∙ i.elements) in
    let long = sym (length-map pushed el) ∙ ap (λ l. length l) els in (
      f.done,
      f.x,
      has_filled c.args.words.now.table_id.slots c.args.free.now.first (suc n) c.loop-handle.last c.loop-handle.next m p c.loop-handle.seat.me c.requires.rest (ap (λ q. q.0) e.1 ∙ c.hold.ensures.holds.view_is) i.view_is f none first some_of (omega arith) long,
      sym els,
    )

pub returns-clause-tracks : goal.returns-clause-tracks
returns-clause-tracks g c =
    let n = length c.args.others in
    let room = c.args.free.now.first - 1 in
    let m = c.args.seat.now.me in
    let k = c.hold.new.seat.me in
    let p = c.put-next.new.seat.me in
    let w = c.loop-handle.seat.me in
    let free = c.args.free.now in
    let t = c.requires.rooms in
    let first = first_of free m.0.free n t.0 t.1 in
    let end = (first_rooms (suc n) m.0.free).end in
    let e = c.put-next.ensures.puts (leads first.others end) (all_vacant first.others end) (first_vacant room (suc n) m k c.hold.ensures.holds first) in
    let i = c.loop-handle.invariant in
    let f = i.fills in
    let over = ap (λ l. length l) c.in_default.ensures.0 in
    let none = nil_from_length f.left (i.left ∙ over) in
    let sum = i.count_is in
    let all : suc n ≡ c.loop-handle.count = omega arith in
    subst (λ q. let left : FreeRooms = record { first = c.loop-handle.next; last = free.last; count = free.count - q } in Tracks left w.0.free) all
    (tracks_filled (suc n) c.loop-handle.last c.loop-handle.next free m p w (ap (λ q. q.0) e.1 ∙ c.hold.ensures.holds.view_is) i.view_is f none t.0)
