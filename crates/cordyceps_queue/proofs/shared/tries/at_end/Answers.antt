use Rattle.std.proofs.Common.{[]}
use Rattle.cordyceps_queue.specs.declared.cores.stage.Stage.TheVariants.{Holding, PutClear, PutRead}
use Rattle.cordyceps_queue.proofs.SharedTheory.PartsJoin.{stage_near, moved_then, moved_rooms, at_stage, moves_in_turn, tries_then, tries_blocked}
use Rattle.cordyceps_queue.proofs.shared.tries.at_end.Goals as goal

pub returns-then-not-is_head-clause-answer : goal.returns-then-not-is_head-clause-answer
returns-then-not-is_head-clause-answer g c =
    let q = c.requires.stage in
    tries_blocked _ c.args.tail.room c.args.seat.now.me c.is_head.new.seat.me q.0.named
    (stage_near _ _ c.args.seat.now.me q.0) q.1 (c.is_head.ensures.passed c.if-not-is_head.true)

pub put_stub-requires-clause-stage : goal.put_stub-requires-clause-stage
put_stub-requires-clause-stage g c =
    let q = c.requires.stage in
    at_stage c.args.words.now.table_id.slots [] (PutClear c.args.tail.room) c.args.seat.now.me c.is_head.new.seat.me
    q.0.named (stage_near _ _ c.args.seat.now.me q.0) (c.is_head.ensures.alone c.if-not-is_head.false)

pub after_tail-requires-clause-stage : goal.after_tail-requires-clause-stage
after_tail-requires-clause-stage g c =
    let q = c.requires.stage in
    let put = moves_in_turn [] [] (PutClear c.args.tail.room) (PutRead c.args.tail.room) c.args.seat.now.me
    c.is_head.new.seat.me c.put_stub.new.seat.me (c.is_head.ensures.alone c.if-not-is_head.false)
    c.put_stub.ensures.answer in (
      at_stage c.args.words.now.table_id.slots [] (PutRead c.args.tail.room) c.args.seat.now.me c.put_stub.new.seat.me
          q.0.named (stage_near _ _ c.args.seat.now.me q.0) put,
      q.1,
    )

pub returns-clause-answer : goal.returns-clause-answer
returns-clause-answer g c =
    let put = moves_in_turn [] [] (PutClear c.args.tail.room) (PutRead c.args.tail.room) c.args.seat.now.me c.is_head.new.seat.me c.put_stub.new.seat.me (c.is_head.ensures.alone c.if-not-is_head.false) c.put_stub.ensures.answer in
    tries_then c.args.words.now.table_id.slots [] [] (PutRead c.args.tail.room) c.args.seat.now.me c.put_stub.new.seat.me c.after_tail.new.seat.me _ _ put c.after_tail.ensures.answer

pub returns-then-not-is_head-clause-rooms : goal.returns-then-not-is_head-clause-rooms
returns-then-not-is_head-clause-rooms g c = moved_rooms [] (Holding c.args.tail.room) c.args.seat.now.me c.is_head.new.seat.me (c.is_head.ensures.passed c.if-not-is_head.true).0

pub returns-clause-rooms : goal.returns-clause-rooms
returns-clause-rooms g c =
    let put = moves_in_turn [] [] (PutClear c.args.tail.room) (PutRead c.args.tail.room) c.args.seat.now.me c.is_head.new.seat.me c.put_stub.new.seat.me (c.is_head.ensures.alone c.if-not-is_head.false) c.put_stub.ensures.answer in
    moved_then [] (PutRead c.args.tail.room) c.args.seat.now.me c.put_stub.new.seat.me c.after_tail.new.seat.me put c.after_tail.ensures.rooms
