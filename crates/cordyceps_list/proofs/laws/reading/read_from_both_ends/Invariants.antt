use Rattle.std.proofs.Common.{◌≡◌, ◌-◌, ◌++◌, length, drop, map, reverse}
use Rattle.cordyceps_base.specs.Element.{values}
use Rattle.cordyceps_list.specs.Turns.{parts_from, parts_by}
use Rattle.cordyceps_list.proofs.laws.reading.read_from_both_ends.Given as goal

abbrev pub invariant-loop-turn : goal.invariant-loop-turn
invariant-loop-turn g l = parts_from (drop l.turn-index l.turns) (record { firsts = map (λ v. v.now) l.firsts.items; left = l.left; lasts = reverse (map (λ v. v.now) l.lasts.items) }) ≡ parts_by l.turns (values l.fn.list)

abbrev pub invariant-loop : goal.invariant-loop
invariant-loop g l = record {
  firsts : map (λ v. v.now) l.firsts.items ++ l.left ≡ (parts_by l.turns (values l.fn.list)).firsts ++ (parts_by l.turns (values l.fn.list)).left;
  lasts : reverse (map (λ v. v.now) l.lasts.items) ≡ (parts_by l.turns (values l.fn.list)).lasts;
  fewer : length l.left ≡ l.more - l.counter;
}
