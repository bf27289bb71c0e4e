use Rattle.std.proofs.Common.{◌≡◌, length}
use Rattle.cordyceps_many.specs.Entries.{from_place}
use Rattle.cordyceps_many.specs.MultiList.{list_at}
use Rattle.cordyceps_map.specs.Chains.{hash_of}
use Rattle.cordyceps_map.specs.Shown.{shown}
use Rattle.cordyceps_map.proofs.Filling.{IsFilling}
use Rattle.cordyceps_map.proofs.chains.fill.Given as goal

abbrev pub invariant-loop-at : goal.invariant-loop-at
invariant-loop-at g l = record {
  way : IsFilling (λ (k : g.row.K.Denot). hash_of g.S.BuildHasher g.S.Hasher.Hasher l.hasher (g.K.Hash.hash_input k)) l.nodes.nodes l.buckets (list_at 0 l.nodes.lists) l.at;
  long : length l.buckets ≡ length l.initial.buckets;
  shows : shown l.nodes.nodes ≡ shown l.initial.nodes.nodes;
  lists : l.nodes.lists ≡ l.initial.nodes.lists;
}

abbrev pub decreases-loop-at : goal.decreases-loop-at
decreases-loop-at g l = length (from_place l.at (list_at 0 l.nodes.lists))
