use Rattle.std.proofs.Common.{◌≡◌, drop}
use Rattle.cordyceps_list.specs.Turns.{parts_from, parts_by}
use Rattle.cordyceps_list.proofs.laws.take_from_both_ends.Given as goal

abbrev pub invariant-loop-turn : goal.invariant-loop-turn
invariant-loop-turn g l = parts_from (drop l.turn-index l.turns) (record { firsts = l.firsts; left = l.left; lasts = l.lasts }) ≡ parts_by l.turns l.fn.list
