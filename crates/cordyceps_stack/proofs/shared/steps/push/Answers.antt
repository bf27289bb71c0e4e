use Rattle.std.proofs.Common.{◌-◌, suc, refl, subst, rules}
use Rattle.std.specs.Prelude.{Option, Bool}
use Rattle.cordyceps_shared.proofs.TrackRooms.{first_room}
use Rattle.cordyceps_stack.specs.Shared.Parts.{HasTried}
use Rattle.cordyceps_stack.proofs.SharedTheory.CallsHold.{whole_tries}
use Rattle.cordyceps_stack.proofs.SharedTheory.PartsJoin.{pushed_later, tracks_after}
use Rattle.cordyceps_stack.proofs.shared.steps.push.Goals as goal

pub overflow_sub-room : goal.overflow_sub-room
overflow_sub-room g c =
    let (others, rooms, some_of) = first_room c.args.free.now c.args.seat.now.me.0.free c.requires.rooms.0 c.requires.rooms.1 in
    search rules

pub first_attempt-next-requires-clause-room : goal.first_attempt-next-requires-clause-room
first_attempt-next-requires-clause-room g c =
    let (others, rooms, some_of) = first_room c.args.free.now c.args.seat.now.me.0.free c.requires.rooms.0 c.requires.rooms.1 in
    (others, rooms)

pub returns-in-Some-clause-tracks : goal.returns-in-Some-clause-tracks
returns-in-Some-clause-tracks g c =
    let f = c.first_attempt-next.new.seat.me in
    tracks_after _ _ _ c.args.item _ c.args.seat.now.me f f c.args.free.now c.first_attempt-next.ensures.tried refl c.requires.rooms.0

pub returns-in-None-clause-rest : goal.returns-in-None-clause-rest
returns-in-None-clause-rest g c =
    let tried = subst (λ (o : Option Bool). HasTried c.args.words.now.table_id.slots (c.args.free.now.first - 1) c.args.item c.first_attempt-next.result.0 o c.args.seat.now.me c.first_attempt-next.new.seat.me) c.in-None.is c.first_attempt-next.ensures.tried in
    (c.settle_at_last.ensures.answer c.args.item tried.answer.ready).1.rests

pub returns-in-None-clause-tracks : goal.returns-in-None-clause-tracks
returns-in-None-clause-tracks g c =
    let m = c.args.seat.now.me in
    let f = c.first_attempt-next.new.seat.me in
    let tried = subst (λ (o : Option Bool). HasTried c.args.words.now.table_id.slots (c.args.free.now.first - 1) c.args.item c.first_attempt-next.result.0 o m f) c.in-None.is c.first_attempt-next.ensures.tried in
    tracks_after _ _ _ c.args.item _ m f c.settle_at_last.new.seat.me c.args.free.now tried (c.settle_at_last.ensures.answer c.args.item tried.answer.ready).1.free c.requires.rooms.0

pub returns-in-None-clause-pushed : goal.returns-in-None-clause-pushed
returns-in-None-clause-pushed g c =
    let m = c.args.seat.now.me in
    let f = c.first_attempt-next.new.seat.me in
    let tried = subst (λ (o : Option Bool). HasTried c.args.words.now.table_id.slots (c.args.free.now.first - 1) c.args.item c.first_attempt-next.result.0 o m f) c.in-None.is c.first_attempt-next.ensures.tried in
    let s = c.settle_at_last.ensures.answer c.args.item tried.answer.ready in
    (suc s.0, pushed_later _ _ _ s.0 c.args.item c.settle_at_last.result m f c.settle_at_last.new.seat.me tried s.1)

pub returns-in-None-clause-whole : goal.returns-in-None-clause-whole
returns-in-None-clause-whole g c is =
    let m = c.args.seat.now.me in
    let f = c.first_attempt-next.new.seat.me in
    let tried = subst (λ (o : Option Bool). HasTried c.args.words.now.table_id.slots (c.args.free.now.first - 1) c.args.item c.first_attempt-next.result.0 o m f) c.in-None.is c.first_attempt-next.ensures.tried in
    absurd (whole_tries _ _ _ c.args.item m f tried is)
