use Rattle.std.proofs.Common.{◌+◌, ◌%◌, length}
use Rattle.cordyceps_list.specs.Cursor.{elements, place, Stands}
use Rattle.cordyceps_list.proofs.laws.CursorMut+T.go_on.Given as goal

abbrev pub invariant-loop : goal.invariant-loop
invariant-loop g l = Stands l.fn.self l.self (elements l.fn.self) ((place l.fn.self + l.counter) % (length (elements l.fn.self) + 1))
