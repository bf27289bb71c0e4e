use Rattle.std.proofs.Common.{◌∙◌, rules}
use Rattle.cordyceps_stack.specs.Shared.Plays.{elements_then}
use Rattle.cordyceps_stack.proofs.SharedTheory.ChainJoins.{settles_all_at}
use Rattle.cordyceps_stack.proofs.SharedTheory.PartsJoin.{tried_again}
use Rattle.cordyceps_stack.proofs.shared.chain.settle_at_last.Goals as goal

pub returns-in-Some-attempt-clause-answer : goal.returns-in-Some-attempt-clause-answer
returns-in-Some-attempt-clause-answer g c before x ready =
    let i = c.loop.invariant in
    settles_all_at c.args.words.now.table_id.slots (elements_then before x) c.in-Some-attempt.was_empty c.args.seat.now.me c.loop.seat.me c.attempt.new.seat.me i.tried i.free (c.in-Some-attempt.ensures.answer before x (i.ready before x ready))

pub loop-preserved : goal.loop-preserved
loop-preserved g c =
    let i = c.loop.invariant in
    let (some_before, some_x, ready) = c.requires.ready in
    let miss = c.in-None-attempt.ensures.answer some_before some_x (i.ready some_before some_x ready) in record {
      iterator = search rules;
      table = search rules;
      ready = λ before x r. (c.in-None-attempt.ensures.answer before x (i.ready before x r)).0.ready;
      free = miss.1.free ∙ i.free;
      tried = tried_again c.args.seat.now.me.0 c.loop.seat.me.0 c.attempt.new.seat.me.0 i.tried miss.1.sees;
    }
