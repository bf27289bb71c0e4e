use Rattle.std.proofs.Common.{[]}
use Rattle.cordyceps_queue.specs.declared.cores.stage.Stage.TheVariants.{PutSwap, PutLink, PutRead}
use Rattle.cordyceps_queue.proofs.SharedTheory.PartsJoin.{at_stage, stage_near, moves_in_turn}
use Rattle.cordyceps_queue.proofs.shared.stub_steps.put_stub.Goals as goal

pub swap_stub-old-requires-clause-stage : goal.swap_stub-old-requires-clause-stage
swap_stub-old-requires-clause-stage g c =
    let q = c.requires.stage in
    at_stage c.args.words.now.table_id.slots [] (PutSwap c.args.tail.room) c.args.seat.now.me
    c.begin_stub-stub.new.seat.me q.named (stage_near _ _ c.args.seat.now.me q) c.begin_stub-stub.ensures.answer

pub link_stub-requires-clause-stage : goal.link_stub-requires-clause-stage
link_stub-requires-clause-stage g c =
    let q = c.requires.stage in
    let begun = c.begin_stub-stub.ensures.answer in
    let swapped = moves_in_turn [] [] (PutSwap c.args.tail.room) (PutLink c.args.tail.room c.swap_stub-old.result.room)
    c.args.seat.now.me c.begin_stub-stub.new.seat.me c.swap_stub-old.new.seat.me begun
    c.swap_stub-old.ensures.answer in (
      at_stage c.args.words.now.table_id.slots [] (PutLink c.args.tail.room c.swap_stub-old.result.room)
          c.args.seat.now.me c.swap_stub-old.new.seat.me q.named (stage_near _ _ c.args.seat.now.me q) swapped,
      c.swap_stub-old.ensures.near,
    )

pub returns-clause-answer : goal.returns-clause-answer
returns-clause-answer g c =
    let begun = c.begin_stub-stub.ensures.answer in
    let swapped = moves_in_turn [] [] (PutSwap c.args.tail.room) (PutLink c.args.tail.room c.swap_stub-old.result.room) c.args.seat.now.me c.begin_stub-stub.new.seat.me c.swap_stub-old.new.seat.me begun c.swap_stub-old.ensures.answer in
    moves_in_turn [] [] (PutLink c.args.tail.room c.swap_stub-old.result.room) (PutRead c.args.tail.room) c.args.seat.now.me c.swap_stub-old.new.seat.me c.link_stub.new.seat.me swapped c.link_stub.ensures.answer
