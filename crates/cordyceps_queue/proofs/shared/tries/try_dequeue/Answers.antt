use Rattle.std.proofs.Common.{[], ◌∷◌, ◌++◌, sym, ap, ◌∙◌, subst, append-nil}
use Rattle.cordyceps_queue.specs.Shared.Parts.{TracksEnd}
use Rattle.cordyceps_queue.specs.declared.cores.stage.Stage.TheVariants.{Rest, Holding}
use Rattle.cordyceps_queue.specs.History.{Event}
use Rattle.cordyceps_queue.specs.Shared.View.{name}
use Rattle.cordyceps_queue.proofs.SharedTheory.PartsJoin.{moved_rooms, bare_rooms, whole_try}
use Rattle.cordyceps_queue.proofs.shared.tries.try_dequeue.Goals as goal

pub take-requires-clause-table : goal.take-requires-clause-table
take-requires-clause-table g c = c.requires.table

pub take-requires-clause-rest : goal.take-requires-clause-rest
take-requires-clause-rest g c = c.requires.rest

pub returns-in_default-clause-table : goal.returns-in_default-clause-table
returns-in_default-clause-table g c = c.take.ensures.table

pub returns-in_default-clause-rest : goal.returns-in_default-clause-rest
returns-in_default-clause-rest g c = c.in_default.ensures.took.0

pub returns-in_default-clause-answer : goal.returns-in_default-clause-answer
returns-in_default-clause-answer g c =
    let took = c.in_default.ensures.took in (
      took.1.free ∙ (ap (λ l. c.args.seat.now.me.0.free ++ l) c.requires.rest.back ∙ append-nil
          c.args.seat.now.me.0.free),
      took.1.sees,
    )

pub returns-in_default-clause-tracks : goal.returns-in_default-clause-tracks
returns-in_default-clause-tracks g c =
    let m = c.args.seat.now.me in
    subst (TracksEnd c.args.spare.now) (sym (moved_rooms (Event.Busy (name m.0) ∷ []) Rest m c.take.new.seat.me
    c.in_default.ensures.took.1 ∙ bare_rooms m.0 c.requires.rest.back)) c.requires.tracks

pub advance-tried-requires-clause-table : goal.advance-tried-requires-clause-table
advance-tried-requires-clause-table g c = (c.take.ensures.table ∙ c.requires.table.0, c.requires.table.1)

pub advance-tried-requires-clause-holding : goal.advance-tried-requires-clause-holding
advance-tried-requires-clause-holding g c = c.in-Some.ensures.took.0.0

pub advance-tried-requires-clause-knows : goal.advance-tried-requires-clause-knows
advance-tried-requires-clause-knows g c = c.in-Some.ensures.took.1

pub advance-tried-requires-clause-tracks : goal.advance-tried-requires-clause-tracks
advance-tried-requires-clause-tracks g c =
    let m = c.args.seat.now.me in
    let k = c.take.new.seat.me in
    let took = c.in-Some.ensures.took.0 in
    subst (TracksEnd c.args.spare.now) (sym (bare_rooms k.0 took.1.back ∙
    (moved_rooms (Event.Take (name m.0) ∷ []) (Holding c.in-Some.tail.room) m k took.1 ∙ bare_rooms m.0
    c.requires.rest.back))) c.requires.tracks

pub give-requires-clause-table : goal.give-requires-clause-table
give-requires-clause-table g c = (c.advance-tried.ensures.table ∙ (c.take.ensures.table ∙ c.requires.table.0), c.requires.table.1)

pub give-requires-clause-holding : goal.give-requires-clause-holding
give-requires-clause-holding g c = c.advance-tried.ensures.holding

pub returns-clause-tracks : goal.returns-clause-tracks
returns-clause-tracks g c =
    let l = c.advance-tried.new.seat.me in
    subst (TracksEnd c.advance-tried.new.spare) (sym (moved_rooms (Event.Free (name l.0) ∷ []) Rest l c.give.new.seat.me c.give.ensures.answer)) c.advance-tried.ensures.tracks

pub returns-clause-table : goal.returns-clause-table
returns-clause-table g c = c.give.ensures.table ∙ (c.advance-tried.ensures.table ∙ c.take.ensures.table)

pub returns-clause-rest : goal.returns-clause-rest
returns-clause-rest g c = c.give.ensures.rest

pub returns-clause-answer : goal.returns-clause-answer
returns-clause-answer g c =
    whole_try c.args.words.now.table_id.slots _ c.advance-tried.result.0.room c.args.seat.now.me c.take.new.seat.me c.advance-tried.new.seat.me c.give.new.seat.me c.advance-tried.result.1 c.requires.rest c.in-Some.ensures.took.0.1 c.advance-tried.ensures.answer c.give.ensures.answer
