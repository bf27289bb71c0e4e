use Rattle.std.proofs.Common.{◌≡◌, ◌<◌, ◌+◌, ℕ, List, length, ap, sym, subst}
use mathlib.Core.Option.{some}
use lib.ListN.{get_elem?}
use Rattle.cordyceps_stack.specs.declared.shared.slot.Slot.{Slot}
use Rattle.cordyceps_stack.specs.Shared.Order.{crosswise, leads_before}
use Rattle.cordyceps_stack.specs.Shared.Slots.{vacant}
use Rattle.cordyceps_stack.proofs.SharedTheory.OrderHolds.{one_more}
use Rattle.cordyceps_stack.proofs.shared.parting.slots.Goals as goal

pub loop-room-preserved : goal.loop-room-preserved
loop-room-preserved g c =
    let i = c.loop-room.invariant in
    let n = c.loop-room.room in
    let f : ℕ → Slot g.row.E.Denot = λ r. vacant (leads_before c.args.rooms (crosswise c.args.rooms r)) in
    let t = one_more c.loop-room.slots.items f n (vacant c.first_link.result) i.0 i.1 (ap (λ k. vacant k) c.first_link.ensures) in
    subst (λ (l : List (Slot g.row.E.Denot)). (length l ≡ n + 1) × ((r : ℕ) → r < n + 1 → get_elem? l r ≡ some (f r))) (sym c.push_reserved.ensures.items) t
