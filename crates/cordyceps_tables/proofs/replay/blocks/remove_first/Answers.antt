use Rattle.std.proofs.Common.{refl, rules}
use Rattle.cordyceps_list.specs.Cursor.{elements, place}
use Rattle.cordyceps_tables.proofs.Filters.{takes_first}
use Rattle.cordyceps_tables.proofs.replay.blocks.remove_first.Goals as goal

pub returns : goal.returns
returns c =
    let was = c.args.cursor.now in
    let removes = c.remove_first-removed.ensures.removes in
    let takes = takes_first _ (record { answers = λ f h x b called. search rules; keeps = λ f h x b called. search rules; turns = λ f h x b called. search rules }) _
    (elements was) _ (place was) _ _ removes.0 c.args.filter c.remove_first-removed.result removes.1 refl in
    record {
      stands = record { same_reference = c.remove_first-removed.ensures.same_reference; elements_are = takes.1; place_is = takes.0 };
      told = rw takes.2 (search rules);
    }
