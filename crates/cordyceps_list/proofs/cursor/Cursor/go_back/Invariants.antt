use Rattle.std.proofs.Common.{◌≡◌, ◌+◌, ◌*◌, ◌%◌, length}
use Rattle.cordyceps_list.proofs.cursor.Cursor.go_back.Given as goal

abbrev pub invariant-loop : goal.invariant-loop
invariant-loop g l =
    let n = length l.fn.self.elements in
    l.self ≡ record { elements = l.fn.self.elements; place = (l.fn.self.place + l.counter * n) % (n + 1) }
