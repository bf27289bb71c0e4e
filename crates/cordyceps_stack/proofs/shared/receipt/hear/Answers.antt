use Rattle.std.proofs.Common.{rules, sym, ap, ◌∙◌}
use Rattle.cordyceps_stack.proofs.SharedTheory.ReceiptKeeps.{hears, has_heard}
use Rattle.cordyceps_stack.proofs.shared.receipt.hear.Goals as goal

pub join_seat-requires : goal.join_seat-requires
join_seat-requires g c = (
  search rules,
  search rules,
  c.requires.bare.1,
  search rules,
  hears _ _ _ _ c.requires.named c.requires.bare.0,
)

pub load-requires : goal.load-requires
load-requires g c =
    let (_, _, joined) = c.join_seat.ensures in (
      search rules,
      search rules,
      has_heard _ _ _ (λ e. c.requires.named (sym (ap (λ m. m.0.known.share) joined) ∙ e)),
    )
