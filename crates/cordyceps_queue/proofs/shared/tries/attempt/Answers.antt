use Rattle.std.proofs.Common.{[], ◌∷◌}
use Rattle.cordyceps_queue.specs.History.{Event}
use Rattle.cordyceps_queue.specs.Shared.View.{name}
use Rattle.cordyceps_queue.specs.declared.cores.stage.Stage.TheVariants.{Null}
use Rattle.cordyceps_queue.proofs.SharedTheory.PartsJoin.{at_stage, tries_then, moved_then}
use Rattle.cordyceps_queue.proofs.shared.tries.attempt.Goals as goal

pub at_end-requires-clause-stage : goal.at_end-requires-clause-stage
at_end-requires-clause-stage g c =
    let E = g.row.E.Denot in
    let q = c.requires.holding.right in
    let look : Event _ E = Event.Look (name c.args.seat.now.me.0) in (
      at_stage c.args.words.now.table_id.slots (look ∷ []) (Null c.args.tail.room) c.args.seat.now.me c.look.new.seat.me
          q.named q.near c.in-None.ensures.answer,
      q.inside,
    )

pub returns-in-None-clause-answer : goal.returns-in-None-clause-answer
returns-in-None-clause-answer g c =
    let E = g.row.E.Denot in
    let look : Event _ E = Event.Look (name c.args.seat.now.me.0) in
    tries_then c.args.words.now.table_id.slots (look ∷ []) [] (Null c.args.tail.room) c.args.seat.now.me c.look.new.seat.me c.at_end.new.seat.me _ _ c.in-None.ensures.answer c.at_end.ensures.answer

pub returns-in-None-clause-rooms : goal.returns-in-None-clause-rooms
returns-in-None-clause-rooms g c =
    let E = g.row.E.Denot in
    let look : Event _ E = Event.Look (name c.args.seat.now.me.0) in
    moved_then (look ∷ []) (Null c.args.tail.room) c.args.seat.now.me c.look.new.seat.me c.at_end.new.seat.me c.in-None.ensures.answer c.at_end.ensures.rooms
