use Rattle.std.proofs.Common.{◌≡◌, ◌-◌, ◌++◌, length, drop, reverse}
use Rattle.cordyceps_base.specs.Element.{values}
use Rattle.cordyceps_list.specs.IterMut.{elements, to_lend, lender}
use Rattle.cordyceps_list.specs.Turns.{parts_from, parts_by}
use Rattle.cordyceps_list.proofs.laws.lending.copy_from_both_ends.Given as goal

abbrev pub invariant-loop-turn : goal.invariant-loop-turn
invariant-loop-turn g l = record {
  same_reference : lender l.left ≡ lender l.initial.left;
  elements_are : elements l.left ≡ l.fn.list;
  parts : parts_from (drop l.turn-index l.turns) (record { firsts = l.firsts.items; left = to_lend l.left; lasts = reverse l.lasts.items }) ≡ parts_by l.turns (values l.fn.list);
}

abbrev pub invariant-loop : goal.invariant-loop
invariant-loop g l = record {
  same_reference : lender l.left ≡ lender l.initial.left;
  elements_are : elements l.left ≡ l.fn.list;
  firsts : l.firsts.items ++ to_lend l.left ≡ (parts_by l.turns (values l.fn.list)).firsts ++ (parts_by l.turns (values l.fn.list)).left;
  lasts : reverse l.lasts.items ≡ (parts_by l.turns (values l.fn.list)).lasts;
  fewer : length (to_lend l.left) ≡ l.end - l.counter;
}
