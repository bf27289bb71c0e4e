use Rattle.std.proofs.Common.{◌≡◌, ◌+◌, ◌%◌, length}
use Rattle.cordyceps_list.proofs.cursor.Cursor.go_on.Given as goal

abbrev pub invariant-loop : goal.invariant-loop
invariant-loop g l =
    let n = length l.fn.self.elements in
    l.self ≡ record { elements = l.fn.self.elements; place = (l.fn.self.place + l.counter) % (n + 1) }
