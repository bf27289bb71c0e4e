use Rattle.std.proofs.Common.{◌-◌, refl, subst, rules}
use Rattle.std.specs.Prelude.{Option, Bool}
use Rattle.cordyceps_shared.proofs.TrackRooms.{first_room}
use Rattle.cordyceps_stack.specs.Shared.Parts.{HasTried}
use Rattle.cordyceps_stack.proofs.SharedTheory.PartsJoin.{missed_first, tracks_after}
use Rattle.cordyceps_stack.proofs.shared.steps.try_push.Goals as goal

pub overflow_sub-room : goal.overflow_sub-room
overflow_sub-room g c =
    let (others, rooms, some_of) = first_room c.args.free.now c.args.seat.now.me.0.free c.requires.rooms.0 c.requires.rooms.1 in
    search rules

pub first_attempt-requires-clause-room : goal.first_attempt-requires-clause-room
first_attempt-requires-clause-room g c =
    let (others, rooms, some_of) = first_room c.args.free.now c.args.seat.now.me.0.free c.requires.rooms.0 c.requires.rooms.1 in
    (others, rooms)

pub returns-in_default-Some-clause-tracks : goal.returns-in_default-Some-clause-tracks
returns-in_default-Some-clause-tracks g c =
    tracks_after _ _ _ c.args.item _ c.args.seat.now.me c.first_attempt.new.seat.me c.first_attempt.new.seat.me c.args.free.now c.first_attempt.ensures.tried refl c.requires.rooms.0

pub returns-in_default-None-clause-answer : goal.returns-in_default-None-clause-answer
returns-in_default-None-clause-answer g c =
    let slots = c.args.words.now.table_id.slots in
    let m = c.args.seat.now.me in
    let f = c.first_attempt.new.seat.me in
    let tried = subst (λ (o : Option Bool). HasTried slots (c.args.free.now.first - 1) c.args.item c.first_attempt.result.0 o m f) c.in_default-None.is-1 c.first_attempt.ensures.tried in
    (c.back_out.ensures.element c.args.item tried.answer.ready, missed_first _ _ _ c.args.item m f c.back_out.new.seat.me tried c.back_out.ensures.seat)

pub returns-in_default-Some-clause-answer : goal.returns-in_default-Some-clause-answer
returns-in_default-Some-clause-answer g c = search rules

pub returns-in_default-None-clause-tracks : goal.returns-in_default-None-clause-tracks
returns-in_default-None-clause-tracks g c = search rules
