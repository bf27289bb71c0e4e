use Rattle.std.proofs.Common.{[], ◌∷◌}
use Rattle.cordyceps_queue.specs.History.{Event}
use Rattle.cordyceps_queue.specs.Shared.View.{name}
use Rattle.cordyceps_queue.specs.declared.cores.stage.Stage.TheVariants.{Holding, StubNull, Second}
use Rattle.cordyceps_queue.specs.declared.shared.table.Tried.TheVariants.{Empty, Inconsistent}
use Rattle.cordyceps_queue.proofs.SharedTheory.PartsJoin.{stage_near, moved_then, moved_rooms, at_stage, tries_then, tries_blocked, tries_empty}
use Rattle.cordyceps_queue.proofs.shared.tries.look_stub.Goals as goal

pub after_stub-requires-clause-stage : goal.after_stub-requires-clause-stage
after_stub-requires-clause-stage g c =
    let E = g.row.E.Denot in
    let q = c.requires.holding.right in
    let look : Event _ E = Event.Look (name c.args.seat.now.me.0) in
    let h = c.in-Some.ensures.answer in (
      at_stage c.args.words.now.table_id.slots (look ∷ []) (Second (c.in-Some.next.room)) c.args.seat.now.me
          c.look_first.new.seat.me q.named q.near h.moves,
      h.near,
    )

pub returns-in-Some-clause-answer : goal.returns-in-Some-clause-answer
returns-in-Some-clause-answer g c =
    let E = g.row.E.Denot in
    let look : Event _ E = Event.Look (name c.args.seat.now.me.0) in
    let h = c.in-Some.ensures.answer in
    tries_then c.args.words.now.table_id.slots (look ∷ []) [] (Second (c.in-Some.next.room)) c.args.seat.now.me
    c.look_first.new.seat.me c.after_stub.new.seat.me _ _ h.moves c.after_stub.ensures.answer

pub head_of_stub-requires-clause-stage : goal.head_of_stub-requires-clause-stage
head_of_stub-requires-clause-stage g c =
    let E = g.row.E.Denot in
    let q = c.requires.holding.right in
    let look : Event _ E = Event.Look (name c.args.seat.now.me.0) in
    at_stage c.args.words.now.table_id.slots (look ∷ []) StubNull c.args.seat.now.me c.look_first.new.seat.me q.named
    q.near (c.in_default.ensures.answer)

pub returns-then-head_of_stub-eq0-clause-answer : goal.returns-then-head_of_stub-eq0-clause-answer
returns-then-head_of_stub-eq0-clause-answer g c =
    let E = g.row.E.Denot in
    let q = c.requires.holding.right in
    let slots = c.args.words.now.table_id.slots in
    let look : Event _ E = Event.Look (name c.args.seat.now.me.0) in
    let n = c.in_default.ensures.answer in
    let at = at_stage slots (look ∷ []) StubNull c.args.seat.now.me c.look_first.new.seat.me q.named q.near n in
    tries_then slots (look ∷ []) [] StubNull c.args.seat.now.me c.look_first.new.seat.me c.head_of_stub.new.seat.me 0 Empty n
    (tries_empty slots 0 c.look_first.new.seat.me c.head_of_stub.new.seat.me at.named
    (stage_near _ _ c.look_first.new.seat.me at) q.inside (c.head_of_stub.ensures.stub c.if-head_of_stub-eq0.true))

pub returns-clause-answer : goal.returns-clause-answer
returns-clause-answer g c =
    let E = g.row.E.Denot in
    let q = c.requires.holding.right in
    let slots = c.args.words.now.table_id.slots in
    let look : Event _ E = Event.Look (name c.args.seat.now.me.0) in
    let n = c.in_default.ensures.answer in
    let at = at_stage slots (look ∷ []) StubNull c.args.seat.now.me c.look_first.new.seat.me q.named q.near n in
    tries_then slots (look ∷ []) [] StubNull c.args.seat.now.me c.look_first.new.seat.me c.head_of_stub.new.seat.me 0 Inconsistent n
    (tries_blocked slots 0 c.look_first.new.seat.me c.head_of_stub.new.seat.me at.named
    (stage_near _ _ c.look_first.new.seat.me at) q.inside (c.head_of_stub.ensures.room c.if-head_of_stub-eq0.false))

pub returns-in-Some-clause-rooms : goal.returns-in-Some-clause-rooms
returns-in-Some-clause-rooms g c =
    let E = g.row.E.Denot in
    let look : Event _ E = Event.Look (name c.args.seat.now.me.0) in
    let h = c.in-Some.ensures.answer in
    moved_then (look ∷ []) (Second (c.in-Some.next.room)) c.args.seat.now.me c.look_first.new.seat.me
    c.after_stub.new.seat.me h.moves c.after_stub.ensures.rooms

pub returns-then-head_of_stub-eq0-clause-rooms : goal.returns-then-head_of_stub-eq0-clause-rooms
returns-then-head_of_stub-eq0-clause-rooms g c =
    let E = g.row.E.Denot in
    let look : Event _ E = Event.Look (name c.args.seat.now.me.0) in
    let empty : Event _ E = Event.Empty (name c.look_first.new.seat.me.0) in
    moved_then (look ∷ []) StubNull c.args.seat.now.me c.look_first.new.seat.me c.head_of_stub.new.seat.me (c.in_default.ensures.answer)
    (moved_rooms (empty ∷ []) (Holding 0) c.look_first.new.seat.me c.head_of_stub.new.seat.me (c.head_of_stub.ensures.stub c.if-head_of_stub-eq0.true))

pub returns-clause-rooms : goal.returns-clause-rooms
returns-clause-rooms g c =
    let E = g.row.E.Denot in
    let look : Event _ E = Event.Look (name c.args.seat.now.me.0) in
    moved_then (look ∷ []) StubNull c.args.seat.now.me c.look_first.new.seat.me c.head_of_stub.new.seat.me (c.in_default.ensures.answer)
    (moved_rooms [] (Holding 0) c.look_first.new.seat.me c.head_of_stub.new.seat.me (c.head_of_stub.ensures.room c.if-head_of_stub-eq0.false).0)
