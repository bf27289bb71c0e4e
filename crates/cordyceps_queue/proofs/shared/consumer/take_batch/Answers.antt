use Rattle.std.proofs.Common.{◌≡◌, [], ◌∷◌, map, length, ap, sym, ◌∙◌, inl, inr, length-append, arith}
use Rattle.std.proofs.lemmas.List.{length-map}
use Rattle.std.proofs.lemmas.Bool.{eqb-true, eq-eqb}
use Rattle.cordyceps_shared.specs.Histories.{plain}
use Rattle.cordyceps_queue.specs.History.{held}
use Rattle.cordyceps_queue.proofs.SharedTheory.CloseTakesAll.{gives_none}
use Rattle.cordyceps_queue.proofs.SharedTheory.TriesInTurn.{given_more}
use Rattle.cordyceps_queue.proofs.SharedTheory.BatchTries.{Gives, took, gives_front, first_try, same_share, stops_full, stops_short, taken_front, all_taken, none_of}
use Rattle.cordyceps_queue.proofs.shared.consumer.take_batch.Goals as goal

pub loop-right-preserved : goal.loop-right-preserved
loop-right-preserved g c =
    let i = c.loop-right.invariant in
    let element = g.T.Linked.element in
    let old = c.loop-right.batch in
    let d = c.in-Ok.ensures.answer in
    let more = c.put_last.ensures in
    record {
      taken = given_more Gives element old _ c.args.right.now c.loop-right.right c.try_once.new.self c.in-Ok.handle i.taken more d;
      table = d.0.1 ∙ i.table;
      few = omega (arith, c.loop-right-test.true, c.len.ensures, ap length more, length-append old (element c.in-Ok.handle ∷ []));
    }

pub returns-then-is_empty-clause-answer : goal.returns-then-is_empty-clause-answer
returns-then-is_empty-clause-answer g c =
    let t = c.loop-right.invariant.taken in
    first_try c.args.right.now c.loop-right.right c.try_once.new.self t.items c.in-Err.why (took c.args.right.now c.loop-right.right t.items t.run) (none_of g.T.Linked.element c.loop-right.batch t.items t.are (eqb-true (length c.loop-right.batch) 0 (sym c.is_empty.ensures ∙ c.if-is_empty.true))) c.in-Err.ensures.answer

pub returns-then-is_empty-clause-whole : goal.returns-then-is_empty-clause-whole
returns-then-is_empty-clause-whole g c is =
    let t = c.loop-right.invariant.taken in
    let share = same_share c.args.right.now c.loop-right.right t.items (took c.args.right.now c.loop-right.right t.items t.run) ∙ is in
    (gives_none c.loop-right.right c.try_once.new.self c.in-Err.why share c.in-Err.ensures.answer (c.in-Err.ensures.whole share)).0

pub returns-else-is_empty-clause-answer : goal.returns-else-is_empty-clause-answer
returns-else-is_empty-clause-answer g c =
    let t = c.loop-right.invariant.taken in
    let same = ap length t.are in
    (t.items, t.are, stops_short c.args.max c.args.right.now c.loop-right.right c.try_once.new.self t.items c.in-Err.why (λ none. let empty = eq-eqb (length c.loop-right.batch) 0 (same ∙ ap (λ z. length (map g.T.Linked.element z)) none) in let no = sym c.if-is_empty.false ∙ (c.is_empty.ensures ∙ empty) in cc) (omega (arith, same, length-map t.items g.T.Linked.element, c.loop-right-test.true, c.len.ensures)) (took c.args.right.now c.loop-right.right t.items t.run) c.in-Err.ensures.answer)

pub returns-else-is_empty-clause-whole : goal.returns-else-is_empty-clause-whole
returns-else-is_empty-clause-whole g c is =
    let i = c.loop-right.invariant in
    let share = same_share c.args.right.now c.loop-right.right i.taken.items (took c.args.right.now c.loop-right.right i.taken.items i.taken.run) ∙ is in
    let none = (gives_none c.loop-right.right c.try_once.new.self c.in-Err.why share c.in-Err.ensures.answer (c.in-Err.ensures.whole share)).1 in
    all_taken g.T.Linked.element c.args.max c.loop-right.batch (held (plain c.loop-right.right.seen)) (held (plain c.args.right.now.seen)) (taken_front g.T.Linked.element c.loop-right.batch i.taken.items _ _ i.taken.are (gives_front c.args.right.now c.loop-right.right i.taken.items is i.taken.run)) (inr (i.few, none))

pub returns-clause-answer : goal.returns-clause-answer
returns-clause-answer g c =
    let t = c.loop-right.invariant.taken in
    let long = ap length t.are in
    let as_many = length-map t.items g.T.Linked.element in
    let full : length t.items ≡ c.args.max = omega (arith, long, as_many, c.loop-right-test.false, c.len.ensures, c.loop-right.invariant.few) in
    (t.items, t.are, stops_full c.args.max c.args.right.now c.loop-right.right t.items (λ none. let zero = ap length none in absurd (omega (arith, full, zero, c.requires.some))) full (took c.args.right.now c.loop-right.right t.items t.run))

pub returns-clause-whole : goal.returns-clause-whole
returns-clause-whole g c is =
    let i = c.loop-right.invariant in
    all_taken g.T.Linked.element c.args.max c.loop-right.batch (held (plain c.loop-right.right.seen)) (held (plain c.args.right.now.seen)) (taken_front g.T.Linked.element c.loop-right.batch i.taken.items _ _ i.taken.are (gives_front c.args.right.now c.loop-right.right i.taken.items is i.taken.run)) (inl (omega (arith, c.loop-right-test.false, c.len.ensures, i.few)))
