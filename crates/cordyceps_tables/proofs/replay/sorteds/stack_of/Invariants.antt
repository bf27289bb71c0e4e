use Rattle.std.proofs.Common.{◌≡◌, map, reverse, take}
use Rattle.cordyceps_tables.specs.Tables.{element_of}
use Rattle.cordyceps_tables.proofs.replay.sorteds.stack_of.Given as goal

abbrev pub invariant-loop-item : goal.invariant-loop-item
invariant-loop-item l = l.stack ≡ map element_of (reverse (take l.item-index l.items))
