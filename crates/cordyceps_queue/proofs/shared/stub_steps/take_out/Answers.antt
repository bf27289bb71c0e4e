use Rattle.std.proofs.Common.{◌∷◌, Some, sym, ap, ◌∙◌, rules}
use Rattle.atomic_table.specs.Table.{rest}
use Rattle.cordyceps_queue.proofs.shared.stub_steps.take_out.Goals as goal

pub exchange-item-requires : goal.exchange-item-requires
exchange-item-requires g c =
    let h = c.requires.full in
    (search rules, (_, h.1 ∙ ap (λ z. (c.args.tail, Some h.0) ∷ rest z) (sym h.1)))
