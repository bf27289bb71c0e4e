use Rattle.std.proofs.Common.{◌≡◌, ◌≤◌, ◌++◌, length, drop}
use Rattle.cordyceps_tables.specs.Blocks.{made_for_all}
use Rattle.cordyceps_tables.proofs.replay.blocks.make_all.Given as goal

abbrev pub invariant-loop-line : goal.invariant-loop-line
invariant-loop-line l = record {
  count : length l.nodes ≤ l.line-index;
  made : l.nodes ++ made_for_all (drop l.line-index l.lines) ≡ made_for_all l.lines;
}
