use Rattle.std.proofs.Common.{◌∷◌, sym, ap, ◌∙◌, rules}
use Rattle.atomic_table.specs.Table.{rest}
use Rattle.cordyceps_stack.specs.Shared.Slots.{vacant}
use Rattle.cordyceps_stack.proofs.shared.parting.next.Goals as goal

pub slot_mut-requires : goal.slot_mut-requires
slot_mut-requires g c =
    let (link, others, first) = c.requires.vacant in
    let slot = vacant link in
    (search rules, (slot, first ∙ ap (λ l. (c.args.room, slot) ∷ rest l) (sym first)))
