use Rattle.std.proofs.Common.{◌-◌, ◌∷◌, [], Some, length, true, arith, length-append, ap, ◌∙◌, rules}
use Rattle.cordyceps_list.specs.DrainFilter.{elements, place, predicate_of}
use Rattle.cordyceps_tables.specs.Filters.{drain}
use Rattle.cordyceps_tables.proofs.Filters.{takes_more, takes_none}
use Rattle.cordyceps_tables.proofs.replay.filters.take_out.Goals as goal

pub returns-in_default : goal.returns-in_default
returns-in_default c =
    let s = c.in_default.ensures.steps in
    let was = c.loop.drain in
    let none = takes_none _ (record { answers = λ f h x b called. search rules; keeps = λ f h x b called. search rules; turns = λ f h x b called. search rules }) _ (elements was) _ (place was) _ (c.args.limit - c.loop.counter) (predicate_of was) _ c.args.filter c.loop.items.items (drain c.args.filter c.args.limit true c.args.list.now 0) s.0 c.loop.invariant.filter_is c.loop.invariant.told c.loop.invariant.kept in
    let same = s.1 ∙ c.loop.invariant.same_reference ∙ c.drain_filter-drain.ensures.same_reference in
    let told = c.show_of.ensures in
    let left = c.drop-drain.ensures ∙ none.1 in
    rw (told, none.0) (search (rules, left, same))

pub loop-preserved : goal.loop-preserved
loop-preserved c =
    let s = c.in-Some.ensures.steps in
    let was = c.loop.drain in
    let below = c.loop-test.true in
    let more = takes_more _ (record { answers = λ f h x b called. search rules; keeps = λ f h x b called. search rules; turns = λ f h x b called. search rules }) _ (elements was) _ (place was) _ c.loop.counter c.args.limit (predicate_of was) _ c.args.filter c.in-Some.node c.into_value.result c.loop.items.items (drain c.args.filter c.args.limit true c.args.list.now 0) s.0 c.loop.invariant.filter_is c.into_value.ensures below c.loop.invariant.told c.loop.invariant.kept in
    let pushed = c.in-Ok.ensures.items in
    let longer = length-append c.loop.items.items (Some c.into_value.result ∷ []) in
    record {
      same_reference = s.1 ∙ c.loop.invariant.same_reference;
      filter_is = more.0;
      room = omega (arith, c.push.ensures.capacity);
      count = omega (arith, ap length pushed);
      others = omega (arith, ap length pushed, more.1);
      told = rw pushed more.2;
      kept = more.3;
    }
