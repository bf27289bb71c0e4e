use Rattle.std.proofs.Common.{◌+◌, ◌≤◌, length, sym, ap, arith}
use Rattle.std.proofs.lemmas.List.{append-nil, drop_all, take_all}
use Rattle.std.proofs.lemmas.Option.{slice_get_past}
use Rattle.cordyceps_list.proofs.owned.OwnedCursor.remove_first.Goals as goal

pub returns-then-place-len : goal.returns-then-place-len
returns-then-place-len g c =
    let s = c.args.self.now.elements in
    let j = c.go_to_passing.new.self.place in
    let past : length s ≤ j = omega (arith, ap length c.go_to_passing.ensures.elements) in
    record {
      walks = c.go_to_passing.ensures.walks;
      from = c.go_to_passing.ensures.from;
      answer = sym (slice_get_past s j past);
      kept = rw (take_all j s past, drop_all (j + 1) s (omega arith), append-nil) c.go_to_passing.ensures.elements;
    }
