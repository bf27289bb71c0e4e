use Rattle.std.proofs.Common.{suc, [], sym, ap, ◌∙◌, subst}
use Rattle.cordyceps_shared.specs.FreeChains.{Tracks}
use Rattle.cordyceps_stack.specs.Shared.Plays.{elements_then}
use Rattle.cordyceps_stack.proofs.SharedTheory.CallsHold.{whole_hits}
use Rattle.cordyceps_stack.proofs.SharedTheory.ChainJoins.{pushed_all, pushed_later, pushed_none}
use Rattle.cordyceps_stack.proofs.shared.chain.push_all.Goals as goal

pub returns-in_default-clause-pushed : goal.returns-in_default-clause-pushed
returns-in_default-clause-pushed g c =
    let e = c.is_empty.ensures in
    ([], c.in_default.ensures.0, (0, pushed_none c.is_empty.result c.args.seat.now.me c.is_empty.new.seat.me e.sees e.answer e.rest.1))

pub returns-in_default-clause-whole : goal.returns-in_default-clause-whole
returns-in_default-clause-whole g c is =
    let e = c.is_empty.ensures in
    ([], c.in_default.ensures.0, pushed_none c.is_empty.result c.args.seat.now.me c.is_empty.new.seat.me e.sees e.answer e.rest.1)

pub returns-in-Some-attempt-clause-pushed : goal.returns-in-Some-attempt-clause-pushed
returns-in-Some-attempt-clause-pushed g c =
    let (before, x, has, all_are) = c.fill-last.ensures.filled in
    let s = c.in-Some-attempt.ensures.answer before x has.ready in
    let all = pushed_all c.args.words.now.table_id.slots c.args.free.now.first 1 c.fill-last.result before x c.in-Some-attempt.was_empty c.args.seat.now.me c.fill-last.new.seat.me c.attempt.new.seat.me has s in
    (elements_then before x, c.in-Some.ensures ∙ all_are, (0, all))

pub returns-in-Some-attempt-clause-whole : goal.returns-in-Some-attempt-clause-whole
returns-in-Some-attempt-clause-whole g c is =
    let (before, x, has, all_are) = c.fill-last.ensures.filled in
    let s = c.in-Some-attempt.ensures.answer before x has.ready in
    let all = pushed_all c.args.words.now.table_id.slots c.args.free.now.first 1 c.fill-last.result before x c.in-Some-attempt.was_empty c.args.seat.now.me c.fill-last.new.seat.me c.attempt.new.seat.me has s in
    (elements_then before x, c.in-Some.ensures ∙ all_are, all)

pub returns-in-None-clause-rest : goal.returns-in-None-clause-rest
returns-in-None-clause-rest g c =
    let (before, x, has, all_are) = c.fill-last.ensures.filled in
    let miss = c.in-None.ensures.answer before x has.ready in
    (c.settle_at_last.ensures.answer before x miss.0.ready).1.rests

pub returns-in-None-clause-tracks : goal.returns-in-None-clause-tracks
returns-in-None-clause-tracks g c =
    let (before, x, has, all_are) = c.fill-last.ensures.filled in
    let miss = c.in-None.ensures.answer before x has.ready in
    let s = c.settle_at_last.ensures.answer before x miss.0.ready in
    subst (λ l. Tracks c.fill-last.new.free l) (sym (s.1.free ∙ miss.1.free)) c.fill-last.ensures.tracks

pub returns-in-None-clause-pushed : goal.returns-in-None-clause-pushed
returns-in-None-clause-pushed g c =
    let slots = c.args.words.now.table_id.slots in
    let m = c.args.seat.now.me in
    let filled = c.fill-last.new.seat.me in
    let k = c.settle_at_last.new.seat.me in
    let (before, x, has, all_are) = c.fill-last.ensures.filled in
    let miss = c.in-None.ensures.answer before x has.ready in
    let s = c.settle_at_last.ensures.answer before x miss.0.ready in
    let es = elements_then before x in
    let later = pushed_later slots s.0 es c.settle_at_last.result filled c.attempt.new.seat.me k miss.1 s.1 in
    let all = pushed_all slots c.args.free.now.first (suc (suc s.0)) c.fill-last.result before x c.settle_at_last.result m filled k has later in
    (es, c.in-Some.ensures ∙ all_are, (suc s.0, all))

pub returns-in-None-clause-whole : goal.returns-in-None-clause-whole
returns-in-None-clause-whole g c is =
    let (before, x, has, all_are) = c.fill-last.ensures.filled in
    let miss = c.in-None.ensures.answer before x has.ready in
    absurd (whole_hits c.fill-last.new.seat.me c.attempt.new.seat.me miss.1 (ap (λ k. k.share) has.known ∙ is))
