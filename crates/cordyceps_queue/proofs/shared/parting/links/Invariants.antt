use Rattle.std.proofs.Common.{◌≡◌, ◌<◌, ◌+◌, ◌*◌, ℕ, length}
use Rattle.cordyceps_shared.specs.Words as word
use Rattle.cordyceps_shared.specs.declared.layout.TheConstants.{LINKS}
use Rattle.cordyceps_queue.proofs.shared.parting.links.Given as goal

abbrev pub invariant-loop-room : goal.invariant-loop-room
invariant-loop-room l =
    (length l.words.items ≡ LINKS + l.rooms + 1) × (word.head l.words.items ≡ 0) × (word.right l.words.items ≡ 2)
    × (word.pool l.words.items ≡ 0)
    × ((r : ℕ) → r < l.room → word.next l.words.items r ≡ 4 * r)
