use Rattle.std.proofs.Common.{[]}
use Rattle.cordyceps_queue.specs.declared.cores.stage.Stage.TheVariants.{Null}
use Rattle.cordyceps_queue.proofs.SharedTheory.PartsJoin.{stage_near, moved_then, hands_taken, at_stage, tries_then}
use Rattle.cordyceps_queue.proofs.shared.tries.after_stub.Goals as goal

pub at_end-requires-clause-stage : goal.at_end-requires-clause-stage
at_end-requires-clause-stage g c =
    let q = c.requires.stage in (
      at_stage c.args.words.now.table_id.slots [] (Null c.args.tail.room) c.args.seat.now.me c.read_second.new.seat.me
          q.0.named (stage_near _ _ c.args.seat.now.me q.0) c.in-None.ensures.answer.0,
      q.1,
    )

pub take_out-requires-clause-full : goal.take_out-requires-clause-full
take_out-requires-clause-full g c = let h = c.in-Some.ensures.answer.0 in (h.element, h.hand)

pub returns-in-Some-clause-answer : goal.returns-in-Some-clause-answer
returns-in-Some-clause-answer g c =
    let q = c.requires.stage in
    (hands_taken _ c.args.tail.room _ [] c.args.seat.now.me c.read_second.new.seat.me c.take_out.new.seat.me
    c.take_out.result q.0.named (stage_near _ _ c.args.seat.now.me q.0) c.in-Some.ensures.answer.0
    c.take_out.ensures.element c.take_out.ensures.seat).0

pub returns-in-Some-clause-rooms : goal.returns-in-Some-clause-rooms
returns-in-Some-clause-rooms g c =
    let q = c.requires.stage in
    (hands_taken _ c.args.tail.room _ [] c.args.seat.now.me c.read_second.new.seat.me c.take_out.new.seat.me
    c.take_out.result q.0.named (stage_near _ _ c.args.seat.now.me q.0) c.in-Some.ensures.answer.0
    c.take_out.ensures.element c.take_out.ensures.seat).1

pub returns-in-None-clause-answer : goal.returns-in-None-clause-answer
returns-in-None-clause-answer g c =
    tries_then c.args.words.now.table_id.slots [] [] (Null c.args.tail.room) c.args.seat.now.me c.read_second.new.seat.me c.at_end.new.seat.me _ _ c.in-None.ensures.answer.0 c.at_end.ensures.answer

pub returns-in-None-clause-rooms : goal.returns-in-None-clause-rooms
returns-in-None-clause-rooms g c =
    moved_then [] (Null c.args.tail.room) c.args.seat.now.me c.read_second.new.seat.me c.at_end.new.seat.me c.in-None.ensures.answer.0 c.at_end.ensures.rooms
