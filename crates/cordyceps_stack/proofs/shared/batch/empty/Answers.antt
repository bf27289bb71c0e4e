use Rattle.std.proofs.Common.{◌∷◌, sym, ap, ◌∙◌, rules}
use Rattle.atomic_table.specs.Table.{rest}
use Rattle.cordyceps_stack.specs.Shared.Slots.{filled}
use Rattle.cordyceps_stack.proofs.shared.batch.empty.Goals as goal

pub slot_mut-slot-requires : goal.slot_mut-slot-requires
slot_mut-slot-requires g c =
    let (x, link, others, first) = c.requires.filled in
    let slot = filled x link in
    (search rules, (slot, first ∙ ap (λ l. (c.args.room, slot) ∷ rest l) (sym first)))
