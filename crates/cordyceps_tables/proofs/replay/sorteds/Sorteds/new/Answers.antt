use Rattle.std.proofs.Common.{refl, arith, rules}
use Rattle.std.proofs.lemmas.Grind.{common_steps}
use Rattle.cordyceps_tables.specs.Sorteds.{empty_with}
use Rattle.cordyceps_tables.proofs.Ordered.{contents_empty, empty_in_order}
use Rattle.cordyceps_tables.proofs.replay.sorteds.Sorteds.new.Goals as goal

pub returns-clause-table : goal.returns-clause-table
returns-clause-table g c =
    let least = contents_empty (empty_with (record {})) c.from_fn.result 6 c.from_fn.ensures.items.long (λ i below. let called = (c.from_fn.ensures.items.at i (empty_with (record {})) below).2 in search rules) in
    let greatest = contents_empty (empty_with (record {})) c.from_fn-2.result 5 c.from_fn-2.ensures.items.long (λ i below. let called = (c.from_fn-2.ensures.items.at i (empty_with (record {})) below).2 in search rules) in
    rw (least, greatest, c.new.ensures) refl

pub returns-clause-in_order : goal.returns-clause-in_order
returns-clause-in_order g c = λ order. rw (returns-clause-table g c) (empty_in_order order 16)

pub invariant_of-result : goal.invariant_of-result
invariant_of-result g c = record {
  least = c.from_fn.ensures.items.long;
  greatest = c.from_fn-2.ensures.items.long;
  own = rw c.new.ensures refl;
  ordered = rw c.new.ensures (first_of (search rules, grind (arith, common_steps)));
}
