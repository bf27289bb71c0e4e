use Rattle.std.proofs.Common.{◌∷◌, sym, ap, ◌∙◌, rules}
use Rattle.atomic_table.specs.Table.{rest}
use Rattle.cordyceps_stack.specs.Shared.Slots.{vacant}
use Rattle.cordyceps_stack.proofs.shared.steps.fill.Goals as goal

pub exchange-requires : goal.exchange-requires
exchange-requires g c =
    let v = c.requires.vacant in
    (search rules, (vacant v.0, v.1 ∙ ap (λ l. (c.args.room, vacant v.0) ∷ rest l) (sym v.1)))
