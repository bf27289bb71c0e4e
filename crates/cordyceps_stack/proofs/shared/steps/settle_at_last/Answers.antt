use Rattle.std.proofs.Common.{◌∙◌, rules}
use Rattle.cordyceps_stack.proofs.SharedTheory.PartsJoin.{tried_again, settles_at}
use Rattle.cordyceps_stack.proofs.shared.steps.settle_at_last.Goals as goal

pub returns-in-Some-attempt-clause-answer : goal.returns-in-Some-attempt-clause-answer
returns-in-Some-attempt-clause-answer g c x ready =
    let i = c.loop.invariant in
    settles_at c.args.words.now.table_id.slots x c.in-Some-attempt.was_empty c.args.seat.now.me c.loop.seat.me c.attempt.new.seat.me i.tried i.free (c.in-Some-attempt.ensures.answer x (i.ready x ready))

pub loop-preserved : goal.loop-preserved
loop-preserved g c =
    let i = c.loop.invariant in
    let ready = c.requires.ready in
    let miss = c.in-None-attempt.ensures.answer ready.0 (i.ready ready.0 ready.1) in record {
      iterator = search rules;
      table = search rules;
      ready = λ x r. (c.in-None-attempt.ensures.answer x (i.ready x r)).0;
      free = miss.1.free ∙ i.free;
      tried = tried_again c.args.seat.now.me.0 c.loop.seat.me.0 c.attempt.new.seat.me.0 i.tried miss.1.sees;
    }
