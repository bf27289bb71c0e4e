use Rattle.std.proofs.Common.{◌≡◌, ◌+◌, ◌≤◌, ◌^◌, List, [], ℕ, length, take}
use Rattle.replay_driver.specs.Steps.{SoFar, HasNoFeed}
use Rattle.replay_driver.proofs.script.read_lines.Given as goal

abbrev pub invariant-loop-end : goal.invariant-loop-end
invariant-loop-end g l = record {
  ready : g.S.Session.is_ready l.session;
  room : 120 + 1 ≤ length l.block;
  short : l.held ≤ 120;
  written : l.text.items ≡ [];
  clean : HasNoFeed (take l.held l.block);
  so_far : (bytes : List ℕ) × g.I.Source.gives l.fn.input l.input bytes × (length bytes + g.I.Source.room l.input ≤ 2 ^ 63)
      × SoFar g.S.Session.machine g.O.Sink.takes bytes (take l.held l.block)
      (record { state = g.S.Session.state l.fn.session; sink = l.fn.output; text = l.fn.text.items })
      (record { state = g.S.Session.state l.session; sink = l.output; text = l.text.items }) l.count;
}

abbrev pub decreases-loop-end : goal.decreases-loop-end
decreases-loop-end g l = g.I.Source.room l.input
