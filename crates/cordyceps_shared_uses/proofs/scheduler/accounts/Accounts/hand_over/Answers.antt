use Rattle.std.proofs.Common.{rules, [], ◌∙◌, ap, arith}
use Rattle.cordyceps_shared_uses.specs.Accounts.{giving, getting, meeting}
use Rattle.cordyceps_shared_uses.proofs.Accounting.{meets, gives, at_rest, with_a_part}
use Rattle.cordyceps_shared_uses.proofs.scheduler.accounts.Accounts.hand_over.Goals as goal

pub join_seat-requires : goal.join_seat-requires
join_seat-requires g c =
    let r = c.requires.rest in
    (search rules, search rules, search rules, search rules, meets _ _ _ _ _ r.0.other r.1.other r.0.backed r.1.backed)

pub split_seat-requires : goal.split_seat-requires
split_seat-requires g c =
    let met = c.join_seat.ensures.2 in
    (search rules, search rules, gives _ _ _ _ (omega (arith, ap (λ m. m.0.mine.parts) met, c.requires.parts.0)) (omega (arith, ap (λ m. m.0.other.parts) met, c.requires.parts.1)))

pub returns-clause-rest : goal.returns-clause-rest
returns-clause-rest g c =
    let v = meeting c.args.from.now.me.0 c.args.to.me.0 in
    let x = g.B.Chosen.name in
    let met = c.join_seat.ensures.2 in (
      at_rest _ (giving x v).mine (c.split_seat.ensures.2 ∙ (ap (λ m. (giving x m.0, m.1)) met ∙ ap (λ l. (giving x v, l)) c.requires.rest.0.slots)) (with_a_part _ c.requires.parts.0),
      at_rest _ (getting x v).mine (c.split_seat.ensures.4 ∙ ap (λ m. (getting x m.0, [])) met) (with_a_part _ c.requires.parts.1),
    )
