use Rattle.std.proofs.Common.{rules, ◌∙◌, ap, arith}
use Rattle.cordyceps_shared_uses.specs.Accounts.{keeping, cut}
use Rattle.cordyceps_shared_uses.proofs.Accounting.{cuts, at_rest, with_a_part, blank_backed}
use Rattle.cordyceps_shared_uses.proofs.scheduler.accounts.Accounts.cut.Goals as goal

pub split_seat-requires : goal.split_seat-requires
split_seat-requires g c = (search rules, search rules, cuts _ _ _ _ c.requires.rest.other (omega (arith, c.requires.parts.0, c.requires.parts.1)))

pub returns-clause-rest : goal.returns-clause-rest
returns-clause-rest g c =
    let v = c.args.seat.now.me.0 in
    let k = g.B.Chosen.parts in (
      at_rest _ (keeping k v).mine (c.split_seat.ensures.2 ∙ ap (λ l. (keeping k v, l)) c.requires.rest.slots) (with_a_part _ (omega (arith, c.requires.parts.0, c.requires.parts.1))),
      at_rest _ (cut k v).mine c.split_seat.ensures.4 (blank_backed k),
    )
