use Rattle.std.proofs.Common.{◌≡◌, ◌+◌, ◌-◌, ◌≤◌, ◌++◌, Some, map, true, length, vec_capacity, min}
use Rattle.cordyceps_list.specs.DrainFilter.{elements, place, lender, predicate_of}
use Rattle.cordyceps_tables.specs.Filters.{drain}
use Rattle.cordyceps_tables.specs.contracts.replay.filters.fn.take_out.drain_filter as closure
use Rattle.cordyceps_tables.proofs.replay.filters.take_out.Given as goal

abbrev pub invariant-loop : goal.invariant-loop
invariant-loop l =
    let turn = (closure.captures (predicate_of l.drain)).turn in
    let left = drain l.fn.filter (l.fn.limit - l.counter) turn (elements l.drain) (place l.drain) in
    let all = drain l.fn.filter l.fn.limit true l.fn.list 0 in
    record {
      same_reference : lender l.drain ≡ lender l.initial.drain;
      filter_is : (closure.captures (predicate_of l.drain)).filter ≡ l.fn.filter;
      room : min (length l.fn.list) l.fn.limit ≤ vec_capacity l.items;
      count : length l.items.items ≡ l.counter;
      others : length l.items.items + length (elements l.drain) ≡ length l.fn.list;
      told : l.items.items ++ map Some left.0 ≡ map Some all.0;
      kept : left.1 ≡ all.1;
    }
