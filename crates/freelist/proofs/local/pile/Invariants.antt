use Rattle.std.proofs.Common.{◌≡◌, ◌++◌, reverse, length}
use Rattle.freelist.proofs.local.pile.Given as goal

abbrev pub invariant-loop-handle : goal.invariant-loop-handle
invariant-loop-handle g l = reverse l.blocks ++ l.hand ≡ reverse l.initial.blocks ++ l.initial.hand

abbrev pub decreases-loop-handle : goal.decreases-loop-handle
decreases-loop-handle g l = length l.blocks
