use Rattle.std.proofs.Common.{◌≡◌, ◌<◌, ℕ, length}
use mathlib.Core.Option.{some}
use lib.ListN.{get_elem?}
use Rattle.cordyceps_stack.specs.Shared.Order.{crosswise, leads_before}
use Rattle.cordyceps_stack.specs.Shared.Slots.{vacant}
use Rattle.cordyceps_stack.proofs.shared.parting.slots.Given as goal

abbrev pub invariant-loop-room : goal.invariant-loop-room
invariant-loop-room g l = (length l.slots.items ≡ l.room) × ((r : ℕ) → r < l.room → get_elem? l.slots.items r ≡ some (vacant (leads_before l.rooms (crosswise l.rooms r))))
